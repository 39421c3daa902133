-- What is printed lies within the list.
use Rattle.std.proofs.Common.{ℕ, ◌≤◌, List, length, IfOk, Ok, Err, Result}
use Rattle.printing.specs.Output.{Printed}
use Rattle.refusal.specs.declared.At.{At}
use Rattle.refusal.specs.declared.JobCause.{JobCause}

pub printed_within : (text out out' : List ℕ) (r : Result ℕ (At JobCause)) → Printed text out out' r → IfOk r (λ n. n ≤ length out)
printed_within text out out' (Ok k) p = p.1
printed_within text out out' (Err e) p = tt
