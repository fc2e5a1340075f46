-- What the laws of stores say.
use Rattle.std.specs.Prelude.{◌≡◌, ℕ, ◌<◌, ◌≤◌, List, Ok, Err, Result}
use Rattle.model.specs.Cells.{Place, Fits}
use Rattle.model.specs.Links.{Each}

-- the words of places are of w bits
abbrev pub AllFit : ℕ → List Place → Type 0
AllFit w ps = Each (Fits w) ps

-- A move to a position: it stands there then; or refused, exactly past the last one, without effect.
abbrev pub SoughtTo : {E : Type 0} → ℕ → ℕ → ℕ → Result (Unit {0}) E → ℕ → Type 0
SoughtTo last was pos (Ok _) is = (pos ≤ last) × (is ≡ pos)
SoughtTo last was pos (Err e) is = (last < pos) × (is ≡ was)
