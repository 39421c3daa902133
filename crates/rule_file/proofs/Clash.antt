-- Two constructors are never equal: where `cc` shows that 0 is 1, all follows.
use Rattle.std.proofs.Common.{◌≡◌, ℕ, arith}

pub clash : {A : Type 0} → ◌≡◌ {A = ℕ} 0 1 → A
clash e = absurd (omega arith)
