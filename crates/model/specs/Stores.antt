-- Word sources and word stacks: what their calls answer and leave.
use Rattle.std.specs.Prelude.{◌≡◌, ℕ, ◌^◌, ◌<◌, ◌≤◌, List, [], ◌∷◌, ◌++◌, length, Some, None, Ok, Err, Option}
use Rattle.model.specs.declared.refusal.Refusal.TheVariants.{Full, BadRecord}
use Rattle.model.specs.Cells.{Place, word, fault}
use Rattle.model.specs.Refusals.{Answer}

-- ---- a word source: a list of places, next first

-- Reading takes the next word, by its value; answers none at the end; or answers a fault's number, and the fault stays.
abbrev pub SourceRead : List Place → Answer (Option ℕ) → List Place → Type 0
SourceRead ps (Ok (Some n)) ps' = ps ≡ word n ∷ ps'
SourceRead ps (Ok None) ps' = (ps ≡ []) × (ps' ≡ [])
SourceRead ps (Err e) ps' = (k : ℕ) × (rest : List Place) × (ps ≡ fault k ∷ rest) × (e ≡ BadRecord k) × (ps' ≡ ps)

-- ---- a word stack: a list of places, oldest first, and a capacity

-- Its laws: the list never exceeds the capacity, and that is at most 2 ^ 56.
pub record Bounded (places : List Place) (capacity : ℕ) : Type 0 where
  pub within : length places ≤ capacity
  pub bounded : capacity ≤ 2 ^ 56

-- Writing adds a word at the end, or is refused, exactly when there are as many places as the capacity, without effect.
abbrev pub StackWritten : ℕ → List Place → ℕ → Answer (Unit {0}) → List Place → Type 0
StackWritten capacity ps n (Ok _) ps' = (length ps < capacity) × (ps' ≡ ps ++ (word n ∷ []))
StackWritten capacity ps n (Err e) ps' = (length ps ≡ capacity) × (e ≡ Full) × (ps' ≡ ps)

-- Reading takes the newest place as a source takes the next.
abbrev pub StackRead : List Place → Answer (Option ℕ) → List Place → Type 0
StackRead ps (Ok (Some n)) ps' = ps ≡ ps' ++ (word n ∷ [])
StackRead ps (Ok None) ps' = (ps ≡ []) × (ps' ≡ [])
StackRead ps (Err e) ps' = (k : ℕ) × (front : List Place) × (ps ≡ front ++ (fault k ∷ [])) × (e ≡ BadRecord k) × (ps' ≡ ps)

-- a call of a store of words of the type W, with its answer
pub data StoreCall (W : Type 0) : Type 0 where
  write : W → Answer (Unit {0}) → StoreCall W
  read : Answer (Option W) → StoreCall W

-- an answer with a word, by the word's value
abbrev pub valued : {W : Type 0} → (W → ℕ) → Answer (Option W) → Answer (Option ℕ)
valued value (Ok None) = Ok None
valued value (Ok (Some x)) = Ok (Some (value x))
valued value (Err e) = Err e

-- What a call makes of the places of a stack, and that it leaves the capacity as it is.
module _ {W : Type 0} (value : W → ℕ) where
  abbrev pub Moved : ℕ → List Place → StoreCall W → List Place → Type 0
  Moved capacity ps (write x r) ps' = StackWritten capacity ps (value x) r ps'
  Moved capacity ps (read r) ps' = StackRead ps (valued value r) ps'

  pub record Moves (capacity : ℕ) (ps : List Place) (call : StoreCall W) (capacity' : ℕ) (ps' : List Place) : Type 0 where
    pub same : capacity' ≡ capacity
    pub moved : Moved capacity ps call ps'

-- These calls of a store and no others were made, in order, and led from s to s'. What one call makes of the whole store, slots past its
-- places included, is each store's own relation `step`.
abbrev pub Made : {S W : Type 0} → (S → StoreCall W → S → Type 0) → S → List (StoreCall W) → S → Type 0
Made step s [] s' = s' ≡ s
Made {S} step s (c ∷ cs) s' = (t : S) × step s c t × Made step t cs s'
