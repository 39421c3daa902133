use Rattle.std.proofs.Common.{◌≡◌, ℕ, List, length, take, ap, ◌∙◌, subst, arith}
use Rattle.rules.specs.Rules.{Rule}
use Rattle.rules.specs.Storage.{decode}
use Rattle.scan.specs.Bytes.{file_words}
use Rattle.rule_file.specs.declared.line.Part.{Part}
use Rattle.rule_file.specs.Form.{form, words_only}
use Rattle.rule_file.specs.Machine.{start_mach, Passes}
use Rattle.rule_store.specs.Storing.{Full}
use Rattle.rule_store.proofs.Going.{stored}
use Rattle.rule_store.proofs.read_file.Goals as goal

pub returns : goal.returns
returns c =
    let bs = c.args.bytes.now in
    let told = c.in_ok-extent.ensures in
    let x = c.in_ok-extent.extent in
    let a = told.checked in
    let rs : List Rule = a.the_rules in
    let p = told.passes.1 in
    let full : Full (length c.args.rules.now) (length c.args.counts.now) (length c.args.entries.now) = (omega arith, omega arith, omega arith) in
    let parts : p.0 ≡ form x.size.value (length rs) rs = told.parts bs x.size.value (length rs) rs p.0 p.1 a.file.spelled p.2 in
    let pass : Passes start_mach (words_only (file_words bs)) (form x.size.value (length rs) rs) p.1 = subst (λ (ps : List Part). Passes start_mach (words_only (file_words bs)) ps p.1) parts p.2 in
    let means : decode (take (length rs) c.fill.new.rules) c.fill.new.counts c.fill.new.entries ≡ rs =
    stored bs c.args.rules.now c.fill.new.rules c.args.counts.now c.fill.new.counts c.args.entries.now c.fill.new.entries x.size.value rs p.1 c.fill.ensures pass full a.file.within in (
      full,
      record {
        the_rules = rs;
        file = a.file;
        many = a.many;
        means = ap (λ (k : ℕ). decode (take k c.fill.new.rules) c.fill.new.counts c.fill.new.entries) a.many ∙ means;
      },
    )
