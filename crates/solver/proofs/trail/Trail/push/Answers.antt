use Rattle.std.proofs.Common.{◌≡◌, ◌<◌, length, arith}
use Rattle.solver.specs.Steps.{entry_of}
use Rattle.solver.proofs.Trails.{trail_push}
use Rattle.solver.proofs.trail.Trail.push.Goals as goal

pub returns-clause-noted : goal.returns-clause-noted
returns-clause-noted c =
    let e : c.from.result ≡ entry_of c.args.step = c.from.ensures (omega arith) in
    let h : c.args.self.now.depth < length c.args.self.now.work.now = omega arith in
    rw e (trail_push c.args.self.now.depth c.args.self.now.work.now c.args.step h)
