-- Accepted exactly when it is one link set's run.
use Rattle.std.specs.Prelude.{◌≡◌, ℕ, ◌<◌, ◌⊎◌, ◌↔◌, List, Ok, Result}
use Rattle.model.specs.declared.link.Link.{Link}
use Rattle.model.specs.Cells.{Place, Fits, Cell, word_places}
use Rattle.model.specs.Degrees.{DegreeAnswered, degree}
use Rattle.model.specs.Links.{Each, LinkSet}
use Rattle.model.specs.Reading.{ReadWhole, ReadStopped}
use Rattle.model.specs.Runs.{RunStop, run_of}

-- Whatever a store of words of w bits holds, fault places included:
pub record AcceptedExactlyAsOneLinkSetsRun (w : ℕ) (ps : List Place) : Type 0 where
  -- it is read to the end with the links xs exactly when these are a link set, ascending, and the store's places are its run;
  pub exactly : (xs : List Link) → ReadWhole w ps xs ↔ (LinkSet xs × (ps ≡ word_places (run_of w xs)))
  -- of one set only;
  pub one : (xs ys : List Link) → ReadWhole w ps xs → ReadWhole w ps ys → xs ≡ ys
  -- else it is refused, and one refusal is told;
  pub otherwise : ((xs : List Link) × ReadWhole w ps xs) ⊎ ((xs : List Link) × (f : RunStop) × (left : List Cell) × ReadStopped w ps xs f left)
  pub settled : (xs ys : List Link) (f g : RunStop) (left after : List Cell) → ReadStopped w ps xs f left → ReadStopped w ps ys g after → (f ≡ g) × (xs ≡ ys) × (left ≡ after)
  pub apart : (xs ys : List Link) (f : RunStop) (left : List Cell) → ReadWhole w ps xs → ReadStopped w ps ys f left → ⊥
  -- and each degree over it is the number of that set's links at the node.
  pub degrees : (xs : List Link) (node : ℕ) (r : Result ℕ RunStop) → ReadWhole w ps xs → DegreeAnswered w ps node r → r ≡ Ok (degree node xs)

abbrev pub AcceptedExactlyWhenOneLinkSetsRun : Type 0
AcceptedExactlyWhenOneLinkSetsRun = (w : ℕ) (ps : List Place) → 0 < w → Each (Fits w) ps → AcceptedExactlyAsOneLinkSetsRun w ps
