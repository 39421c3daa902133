-- A job over a lawful book is a lawful book: the pins before the bans before the book.
use Rattle.std.specs.Prelude.{ℕ, List}
use Rattle.book.specs.declared.Mark.{Mark}
use Rattle.book.specs.declared.Reading.{Reading}
use Rattle.book.specs.Books.{Laws}
use Rattle.standing.specs.Standing.{Standing}
use Rattle.job.specs.Jobs.{job_reading, Permits}
use Rattle.job.specs.Layers.{before, reworded}
use Rattle.job.specs.PinLaws.{pin_laws}
use Rattle.job.specs.BanLaws.{bans_laws}

pub job_laws : (n : ℕ) (allows : List Mark → Type 0) (reads : List Mark → Reading) → Laws n allows reads → (s : Standing) → Laws n (Permits allows s) (job_reading s reads)
job_laws n allows reads laws s =
    reworded n _ (Permits allows s) _
    (λ a h. record { by_book = h.1.1; by_pins = h.0.2; by_bans = h.1.0.2 })
    (λ a h. let z = laws.sized a h.by_book in ((z.0, z.1, h.by_pins), ((z.0, z.1, h.by_bans), h.by_book)))
    (before n _ _ _ _ (pin_laws n s.pins laws.small) (before n _ _ _ _ (bans_laws n s.bans laws.small) laws))
