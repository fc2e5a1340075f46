-- Lemmas: the laws of stores whose places are told element by element.
use Rattle.std.specs.Prelude.{ℕ, List, [], ◌∷◌, ◌++◌, map, reverse}
use Rattle.std.proofs.Common.{sym, subst}
use mathlib.Core.List.{reverse-cons}
use Rattle.model.specs.Cells.{Place, Fits}
use Rattle.model.specs.Links.{Each}
use Rattle.backends.specs.Sources.{AllFit}

pub each_append : {A : Type 0} (P : A → Type 0) (xs ys : List A) → Each P xs → Each P ys → Each P (xs ++ ys)
each_append P [] ys p q = q
each_append P (x ∷ xs) ys p q = (p.0, each_append P xs ys p.1 q)

pub each-reverse : {A : Type 0} (P : A → Type 0) (xs : List A) → Each P xs → Each P (reverse xs)
each-reverse P [] p = tt
each-reverse P (x ∷ xs) p = subst (Each P) (sym (reverse-cons x xs)) (each_append P (reverse xs) (x ∷ []) (each-reverse P xs p.1) (p.0, tt))

pub all_fit : {A : Type 0} (w : ℕ) (place : A → Place) → ((x : A) → Fits w (place x)) → (xs : List A) → AllFit w (map place xs)
all_fit w place fits [] = tt
all_fit w place fits (x ∷ xs) = (fits x, all_fit w place fits xs)
