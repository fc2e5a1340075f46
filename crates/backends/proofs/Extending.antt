-- Words written one after the other.
use Rattle.std.proofs.Common.{◌≡◌, ℕ, ◌+◌, ◌-◌, ◌<◌, ◌≤◌, List, [], ◌∷◌, ◌++◌, map, length, get_or, take, drop, Ok, Err, sym, refl, ap, ◌∙◌, subst, append_assoc, append-nil, arith, length-append, length-drop}
use lib.ListN.{length-map}
use Rattle.std.proofs.lemmas.List.{drop_more, map_more, length-take-le, take-map, nil_from_length}
use Rattle.model.specs.Cells.{Place}
use Rattle.model.specs.declared.refusal.Refusal.{Refusal}
use Rattle.model.specs.declared.refusal.Refusal.TheVariants.{Full}
use Rattle.model.specs.Refusals.{Answer}
use Rattle.backends.specs.Chains.{WroteAll, none_left, one_written, one_refused, Extended}

module _ {S W : Type 0} (writes : S → W → Answer (Unit {0}) → S → Type 0) (places : S → List Place) (capacity : S → ℕ) (place_of : W → Place) (s : S) (xs : List W) where
  -- the first i words are written, and brought the store from s to t
  pub record Written (i : ℕ) (t : S) : Type 0 where
    pub calls : (r : Answer (Unit {0})) (u : S) → WroteAll writes t (drop i xs) r u → WroteAll writes s xs r u
    pub held : places t ≡ places s ++ map place_of (take i xs)
    pub room : length (places s) + i ≤ capacity s
    pub same : capacity t ≡ capacity s

  pub none_yet : length (places s) ≤ capacity s → Written 0 s
  none_yet le = record { calls = λ r u w. w; held = sym (append-nil (places s)); room = omega arith; same = refl }

  module _ (i : ℕ) (t : S) (h : Written i t) (lt : i < length xs) (x : W) (is : x ≡ get_or xs i x) where
    next : drop i xs ≡ x ∷ drop (i + 1) xs
    next = drop_more xs i x lt ∙ ap (λ y. y ∷ drop (i + 1) xs) (sym is)

    many : length (places t) ≡ length (places s) + i
    many =
        ap length h.held ∙ length-append (places s) (map place_of (take i xs))
        ∙ ap (λ n. length (places s) + n) (length-map (take i xs) place_of ∙ length-take-le i xs (omega arith))

    pub one_more : (u : S) → writes t x (Ok tt) u → (length (places t) < capacity t) × (places u ≡ places t ++ (place_of x ∷ [])) → capacity u ≡ capacity t → Written (i + 1) u
    one_more u w (few, e) k = record {
      calls = λ r v rest. h.calls r v (subst (λ ys. WroteAll writes t ys r v) (sym next) (one_written w rest));
      held = e ∙ ap (λ z. z ++ (place_of x ∷ [])) h.held
          ∙ append_assoc (places s) (map place_of (take i xs)) (place_of x ∷ [])
          ∙ ap (λ z. places s ++ z) (ap (λ y. map place_of (take i xs) ++ (place_of y ∷ [])) is ∙ sym (map_more place_of xs i x lt));
      room = let m = many in let q = h.same in omega arith;
      same = k ∙ h.same;
    }

    pub refused : (u : S) (e : Refusal) → writes t x (Err e) u → WroteAll writes s xs (Err e) u
    refused u e w = h.calls (Err e) u (subst (λ ys. WroteAll writes t ys (Err e) u) (sym next) (one_refused w))

    pub no_room : (u : S) (e : Refusal) → (length (places t) ≡ capacity t) × (e ≡ Full) × (places u ≡ places t) → Extended (capacity s) (places s) (map place_of xs) (Err e) (places u)
    no_room u e (full, why, stay) =
        let m = many in
        let q = h.same in
        let l = length-map xs place_of in
        let k : capacity s - length (places s) ≡ i = omega arith in
        (omega arith, why, stay ∙ h.held ∙ ap (λ z. places s ++ z) (sym (take-map place_of i xs) ∙ ap (λ n. take n (map place_of xs)) (sym k)))

  pub all_written : (i : ℕ) (t : S) → Written i t → length xs ≤ i → WroteAll writes s xs (Ok tt) t
  all_written i t h ge = h.calls (Ok tt) t (subst (λ ys. WroteAll writes t ys (Ok tt) t) (sym (nil_from_length (drop i xs) (omega (arith, length-drop i xs)))) none_left)
