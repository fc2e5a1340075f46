-- Several calls of a store, one after the other.
use Rattle.std.specs.Prelude.{◌≡◌, ℕ, ◌+◌, ◌-◌, ◌<◌, ◌≤◌, List, [], ◌∷◌, ◌++◌, length, take, Some, None, Ok, Err, Option}
use Rattle.model.specs.Cells.{Place, word, fault}
use Rattle.model.specs.declared.refusal.Refusal.{Refusal}
use Rattle.model.specs.declared.refusal.Refusal.TheVariants.{BadRecord, Full}
use Rattle.model.specs.Refusals.{Answer}

-- Words written one after the other, up to the first that is refused: just these writes were made, and no more is tried after a refusal.
pub data WroteAll {S W : Type 0} (writes : S → W → Answer (Unit {0}) → S → Type 0) : S → List W → Answer (Unit {0}) → S → Type 0 where
  none_left : {s : S} → WroteAll writes s [] (Ok tt) s
  one_written : {s t u : S} {x : W} {xs : List W} {r : Answer (Unit {0})} → writes s x (Ok tt) t → WroteAll writes t xs r u → WroteAll writes s (x ∷ xs) r u
  one_refused : {s t : S} {x : W} {xs : List W} {e : Refusal} → writes s x (Err e) t → WroteAll writes s (x ∷ xs) (Err e) t

-- By the places: all words join the end; or, exactly where they find no room, just those that do.
abbrev pub Extended : ℕ → List Place → List Place → Answer (Unit {0}) → List Place → Type 0
Extended capacity ps more (Ok _) ps' = (length ps + length more ≤ capacity) × (ps' ≡ ps ++ more)
Extended capacity ps more (Err e) ps' = (capacity < length ps + length more) × (e ≡ Full) × (ps' ≡ ps ++ take (capacity - length ps) more)

-- The newest word is taken, and leaves room; none where there is no place; or refused where the newest place is a fault, without effect.
abbrev pub Taken : ℕ → List Place → Answer (Option ℕ) → List Place → Type 0
Taken capacity ps (Ok (Some old)) ps' = (ps ≡ ps' ++ (word old ∷ [])) × (length ps' < capacity)
Taken capacity ps (Ok None) ps' = (ps ≡ []) × (ps' ≡ [])
Taken capacity ps (Err e) ps' = (k : ℕ) × (front : List Place) × (ps ≡ front ++ (fault k ∷ [])) × (e ≡ BadRecord k) × (ps' ≡ ps)

-- The newest word is replaced, and answered; nothing where there is no place; or refused where the newest place is a fault, without effect.
abbrev pub Replaced : List Place → ℕ → Answer (Option ℕ) → List Place → Type 0
Replaced ps n (Ok (Some old)) ps' = (front : List Place) × (ps ≡ front ++ (word old ∷ [])) × (ps' ≡ front ++ (word n ∷ []))
Replaced ps n (Ok None) ps' = (ps ≡ []) × (ps' ≡ [])
Replaced ps n (Err e) ps' = (k : ℕ) × (front : List Place) × (ps ≡ front ++ (fault k ∷ [])) × (e ≡ BadRecord k) × (ps' ≡ ps)
