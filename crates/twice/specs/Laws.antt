-- Lemmas: the laws of the store as a sink and as a stack.
use Rattle.std.specs.Prelude.{◌≡◌, ℕ, ◌^◌, ◌≤◌, length, Some, None, Ok, Err, Option, refl}
use Rattle.std.proofs.Common.{ap, arith}
use Rattle.model.specs.Refusals.{Answer}
use Rattle.twice.specs.declared.TwiceStore.{TwiceStore}
use Rattle.twice.specs.Calls.{TwicePopped}
use Rattle.twice.specs.Places.{slots_of, twice_at, twice_room, twice_stack}
use Rattle.twice.specs.Slots.{many}

-- the places never exceed the capacity, and that is at most 2^56
pub places_within : (s : TwiceStore) → length (twice_stack s) ≤ twice_room s
places_within s = let n = many s.bytes.now s.pos (twice_at s) refl in omega arith

pub room_bounded : (s : TwiceStore) → twice_room s ≤ 2 ^ 56
room_bounded s = omega arith

-- no read changes the capacity
pub room_kept : (s t : TwiceStore) (r : Answer (Option ℕ)) → TwicePopped s r t → twice_room t ≡ twice_room s
room_kept s t (Ok (Some w)) (_, _, _, h) = ap slots_of h.content
room_kept s t (Ok None) (_, same) = ap twice_room same
room_kept s t (Err e) (_, _, _, same) = ap twice_room same
