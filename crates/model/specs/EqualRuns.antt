-- Equal words exactly when equal link sets.
use Rattle.std.specs.Prelude.{◌≡◌, ℕ, ◌<◌, ◌↔◌, List, [], Ok}
use Rattle.model.specs.declared.link.Link.{Link}
use Rattle.model.specs.declared.link.Row.{Row}
use Rattle.model.specs.Cells.{Place, Fits}
use Rattle.model.specs.Links.{Each, LinkSet, SameLinks}
use Rattle.model.specs.Reading.{ReadWhole}
use Rattle.model.specs.Rows.{settled}
use Rattle.model.specs.Runs.{RunWritten}

-- A run of width w that was accepted, by the places that it has in its store, and its link set: it was written from a table after any
-- history of rows, and its links are the table's; or it was offered, and its links are those read. (In every store of width w each word
-- is below 2 ^ w; of numbers that are not, several have the same w lowest bits, and would be read alike.)
pub data AcceptedRun (w : ℕ) : List Place → List Link → Type 0 where
  written : {C : ℕ} {ps : List Place} {xs : List Link} (rows : List Row) → LinkSet xs → SameLinks xs (settled rows) → RunWritten w C [] xs (Ok tt) ps → AcceptedRun w ps xs
  offered : {ps : List Place} {xs : List Link} → Each (Fits w) ps → ReadWhole w ps xs → AcceptedRun w ps xs

-- Any two accepted runs of one word width, in stores of whatever kinds, have equal words exactly when their link sets are equal.
abbrev pub EqualWordsExactlyWhenEqualLinks : Type 0
EqualWordsExactlyWhenEqualLinks =
    (w : ℕ) (ps qs : List Place) (xs ys : List Link)
    → 0 < w
    → AcceptedRun w ps xs
    → AcceptedRun w qs ys
    → (ps ≡ qs) ↔ SameLinks xs ys
