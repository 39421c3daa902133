-- Which parts are the end.
use Rattle.std.proofs.Common.{◌≡◌, false, refl}
use Rattle.rule_file.specs.declared.line.Part.{Part}
use Rattle.rule_file.specs.declared.line.Part.TheVariants as part
use Rattle.rule_file.specs.Reader.{is_end}

pub not_end : (p : Part) → (p ≡ part.End → ⊥) → is_end p ≡ false
not_end part.HeaderLine f = refl
not_end part.Header f = refl
not_end (part.Size v) f = refl
not_end (part.Rules v) f = refl
not_end part.HeaderEnd f = refl
not_end part.RuleLine f = refl
not_end (part.Choice v) f = refl
not_end part.CountOpen f = refl
not_end (part.Lower v) f = refl
not_end (part.Upper v) f = refl
not_end (part.Member v) f = refl
not_end part.CountClose f = refl
not_end part.Comma f = refl
not_end part.RuleEnd f = refl
not_end part.End f = absurd (f refl)
