-- Symbols written one after the other, in the order that an iterator gives them.
use Rattle.std.proofs.Common.{List, [], ◌∷◌, Some, None, Ok, Err, Option, subst}
use Rattle.model.specs.declared.refusal.Refusal.{Refusal}
use Rattle.model.specs.Refusals.{Answer}
use Rattle.backends.specs.Chains.{WroteAll, none_left, one_refused, one_written}
use Rattle.bit_streams.specs.Several.{Gives}

module _ {S I X V : Type 0} (writes : S → V → Answer (Unit {0}) → S → Type 0) (gives : I → Option X → I → Type 0) (f : X → V) (s : S) (codes : List V) where
  -- what is still to come at `at`, written from t on, makes the writes of all, from s on
  abbrev pub Onward : I → S → Type 0
  Onward at t = (left : List V) × Gives gives f at left × ((r : Answer (Unit {0})) (u : S) → WroteAll writes t left r u → WroteAll writes s codes r u)

  pub none_yet : (at : I) → Gives gives f at codes → Onward at s
  none_yet at all = (codes, all, λ r u w. w)

  module _ (at then : I) (t u : S) where
    pub one_more : (x : X) → Onward at t → gives at (Some x) then → writes t (f x) (Ok tt) u → Onward then u
    unfolding Gives
    one_more x ([], a, w) next wrote = absurd (a x then next)
    one_more x (y ∷ ys, a, w) next wrote = let h = a.1 x then next in (ys, h.1, λ r v rest. w r v (one_written (subst (λ z. writes t z (Ok tt) u) h.0 wrote) rest))

    pub refused : (x : X) (e : Refusal) → Onward at t → gives at (Some x) then → writes t (f x) (Err e) u → WroteAll writes s codes (Err e) u
    unfolding Gives
    refused x e ([], a, w) next wrote = absurd (a x then next)
    refused x e (y ∷ ys, a, w) next wrote = let h = a.1 x then next in w (Err e) u (one_refused (subst (λ z. writes t z (Err e) u) h.0 wrote))

  pub all_written : (at then : I) (t : S) → Onward at t → gives at None then → WroteAll writes s codes (Ok tt) t
  unfolding Gives
  all_written at then t ([], a, w) next = w (Ok tt) t none_left
  all_written at then t (y ∷ ys, a, w) next = absurd (a.0 then next)
