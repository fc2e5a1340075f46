-- A stack is read from its newest place.
use Rattle.std.proofs.Common.{◌≡◌, ℕ, ◌≤◌, List, [], ◌∷◌, ◌++◌, reverse, length, Some, None, Ok, Err, Option, sym, ap, ◌∙◌, subst, arith, length-append}
use mathlib.Core.List.{reverse-cons, reverse-reverse}
use Rattle.model.specs.Cells.{Place, word, fault}
use Rattle.model.specs.Refusals.{Answer}
use Rattle.model.specs.Stores.{SourceRead, StackRead}
use Rattle.model.proofs.OneAnswer.{reverse-same}
use Rattle.backends.specs.Chains.{Taken}

turned_back : {A : Type 0} (xs ys : List A) (x : A) → reverse xs ≡ x ∷ ys → xs ≡ reverse ys ++ (x ∷ [])
turned_back xs ys x e = sym (reverse-reverse xs) ∙ ap reverse e ∙ reverse-cons x ys

-- what is read of the places, newest first, is a read of the stack
pub stack_read : (ps ps' : List Place) (a : Answer (Option ℕ)) → SourceRead (reverse ps) a (reverse ps') → StackRead ps a ps'
stack_read ps ps' (Ok (Some n)) e = turned_back ps (reverse ps') (word n) e ∙ ap (λ t. t ++ (word n ∷ [])) (reverse-reverse ps')
stack_read ps ps' (Ok None) (e, h) = (reverse-same ps [] e, reverse-same ps' [] h)
stack_read ps ps' (Err w) (k, rest, e, h, s) = (k, reverse rest, turned_back ps rest (fault k) e, h, reverse-same ps' ps s)

-- the same, where the places to come are told apart
pub read_of : (ps ps' cs cs' : List Place) (a : Answer (Option ℕ)) → cs ≡ reverse ps → cs' ≡ reverse ps' → SourceRead cs a cs' → StackRead ps a ps'
read_of ps ps' cs cs' a e h r = stack_read ps ps' a (subst (λ x. SourceRead (reverse ps) a x) h (subst (λ x. SourceRead x a cs') e r))

-- what was taken leaves room
leaves_room : (ps ps' : List Place) (c : ℕ) (a : Answer (Option ℕ)) → length ps ≤ c → StackRead ps a ps' → Taken c ps a ps'
leaves_room ps ps' c (Ok (Some n)) le e = let l = ap length e ∙ length-append ps' (word n ∷ []) in (e, omega arith)
leaves_room ps ps' c (Ok None) le e = e
leaves_room ps ps' c (Err w) le e = e

pub taken : (ps ps' cs cs' : List Place) (c : ℕ) (a : Answer (Option ℕ)) → cs ≡ reverse ps → cs' ≡ reverse ps' → length ps ≤ c → SourceRead cs a cs' → Taken c ps a ps'
taken ps ps' cs cs' c a e h le r = leaves_room ps ps' c a le (read_of ps ps' cs cs' a e h r)
