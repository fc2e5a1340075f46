-- Degree and ports.
use Rattle.std.specs.Prelude.{◌≡◌, ℕ, ◌+◌, ◌*◌, ◌/◌, ◌<◌, ◌≤◌, Bool, cond, ◌||◌, List, [], ◌∷◌, Ok, Err, Result, ◌==◌}
use Rattle.model.specs.declared.link.Link.{Link}
use Rattle.model.specs.declared.refusal.Refusal.TheVariants.{Overspare}
use Rattle.model.specs.Cells.{Place, Cell}
use Rattle.model.specs.Reading.{ReadWhole, ReadStopped}
use Rattle.model.specs.Runs.{RunStop}

-- the link is at the node: one of its ends is
abbrev pub at_node : ℕ → Link → Bool
at_node node x = x.low == node || x.high == node

-- the degree of a node: the number of links at it
abbrev pub degree : ℕ → List Link → ℕ
degree node [] = 0
degree node (x ∷ xs) = cond (at_node node x) 1 0 + degree node xs

-- ports for a spare share in percent, the fraction dropped
abbrev pub ports : ℕ → ℕ → ℕ
ports count spare = count * (100 + spare) / 100

-- What is answered over a run in a store with the places ps: a number told from the links where it is read whole, else the refusal.
abbrev pub AnsweredOver : ℕ → List Place → (List Link → ℕ) → Result ℕ RunStop → Type 0
AnsweredOver w ps count (Ok n) = (xs : List Link) × ReadWhole w ps xs × (n ≡ count xs)
AnsweredOver w ps count (Err f) = (xs : List Link) × (left : List Cell) × ReadStopped w ps xs f left

-- a call of degree
abbrev pub DegreeAnswered : ℕ → List Place → ℕ → Result ℕ RunStop → Type 0
DegreeAnswered w ps node r = AnsweredOver w ps (degree node) r

-- A call of ports: a spare share above 100 is refused before everything else.
abbrev pub PortsAnswered : ℕ → List Place → ℕ → ℕ → Result ℕ RunStop → Type 0
PortsAnswered w ps node spare r =
    (100 < spare → r ≡ Err (record { index = 0; why = Overspare }))
    × (spare ≤ 100 → AnsweredOver w ps (λ xs. ports (degree node xs) spare) r)
