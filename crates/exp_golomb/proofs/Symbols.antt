-- What is answered as read was the outcome.
use Rattle.std.proofs.Common.{◌≡◌, ℕ, List, [], ◌∷◌, Ok}
use Rattle.model.specs.Cells.{Cell, bad, beyond, bit}
use Rattle.model.specs.Codebooks.{Decoded, Outcome, Unread, ran_out, refused, short, symbol}

-- bits that run out give no symbol
no_symbol : {S : Type 0} (why : Unread) (x : List Cell) (s : S) → Ok s ≡ ran_out why x → ⊥
no_symbol why [] s e = cc
no_symbol why (bit b ∷ x) s e = cc
no_symbol why (bad k ∷ x) s e = cc

pub answered : {S : Type 0} (o : Outcome S) (cs cs' : List Cell) (s : S) → Decoded o cs (Ok s) cs' → (n : ℕ) × (o ≡ symbol s n)
answered (symbol t n) cs cs' s (e, left) = (n, cc)
answered (refused why n) cs cs' s (e, left) = absurd cc
answered (short why) cs cs' s (e, left) = absurd (no_symbol why (beyond cs) s e)
