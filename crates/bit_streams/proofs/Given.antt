-- What a slice's iterators give once a closure is put over them.
use Rattle.std.proofs.Common.{◌≡◌, List, map, reverse, refl, subst, Iter}
use denote.Param.Members.{Called, Mut}
use denote.Ref.{Bor}
use Rattle.std.proofs.lemmas.Iterator.{YieldsList-from_map_by, YieldsList-from_slice}
use Rattle.std.proofs.lemmas.Iterator.Adapters.{YieldsList-from_rev_slice}
use Rattle.std.specs.declared.iter.Map.{Map}
use Rattle.std.specs.declared.iter.Rev.{Rev}
use Rattle.std.specs.Iterator.{AlwaysYields}
use Rattle.std.specs.Iterator.Adapters.{map_callee, map_source, map_steps, rev_source, rev_steps}
use Rattle.std.specs.Slice.Iter.{iter_rest, iter_steps, iter_steps_back}
use Rattle.backends.specs.Fronts.{map-reverse}
use Rattle.bit_streams.specs.Several.{Gives}

-- each call of the closure leaves it as it was, and `view` reads of its answer what f makes of the element
abbrev pub Shows : {X Y W F : Type 0} → (X → Y) → Mut F (Bor X × Unit {0}) W → (W → Y) → F → Type 0
Shows {X} {Y} {W} {F} f g view by = (x : Bor X) (w : W) (q : F) → Called g by (x, tt) w q → (q ≡ by) × (view w ≡ f x.now)

module _ {X Y W F : Type 0} (f : X → Y) (g : Mut F (Bor X × Unit {0}) W) (view : W → Y) (xs : List X) where
  pub gives_all : (s : Map (Iter X) F) → iter_rest (map_source s) ≡ xs → Shows f g view (map_callee s) → Gives (map_steps iter_steps g) view s (map f xs)
  unfolding Gives
  gives_all s e h = let a = YieldsList-from_map_by {s = s} g view f (YieldsList-from_slice {s = map_source s} xs e) refl h in a.runs

  pub gives_back : (s : Map (Rev (Iter X)) F) → iter_rest (rev_source (map_source s)) ≡ xs → Shows f g view (map_callee s) → Gives (map_steps (rev_steps iter_steps_back) g) view s (reverse (map f xs))
  unfolding Gives
  gives_back s e h =
      let a = YieldsList-from_map_by {s = s} g view f (YieldsList-from_rev_slice {s = map_source s} xs e) refl h in
      subst (AlwaysYields (map_steps (rev_steps iter_steps_back) g) view s) (map-reverse f xs) a.runs

pub ruleset giving = (gives_all, gives_back)
