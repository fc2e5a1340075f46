-- The table codebook: up to 16 codewords of 1 to 16 bits, the symbol being the entry's index from 0.
use Rattle.std.specs.Prelude.{◌≡◌, ℕ, suc, ◌≤◌, Bool, true, false, cond, not, ◌&&◌, ◌||◌, List, [], ◌∷◌, ◌++◌, length, Some, None, Option}
use Rattle.std.specs.List.{slice_get}
use Rattle.model.specs.Codebooks.{Outcome, symbol, refused, short, dry, garbled}

abbrev pub same_bit : Bool → Bool → Bool
same_bit true b = b
same_bit false b = not b

-- v begins w, or is w
abbrev pub begins : List Bool → List Bool → Bool
begins [] w = true
begins (x ∷ v) [] = false
begins (x ∷ v) (y ∷ w) = same_bit x y && begins v w

-- v begins one of the codewords
abbrev pub begins_one : List Bool → List (List Bool) → Bool
begins_one v [] = false
begins_one v (w ∷ ws) = begins v w || begins_one v ws

-- The rule of a table: no codeword begins another's, at whatever two indices.
pub record IsCodeTable (ws : List (List Bool)) : Type 0 where
  pub few : length ws ≤ 16
  pub lengths : (i : ℕ) (v : List Bool) → slice_get ws i ≡ Some v → (1 ≤ length v) × (length v ≤ 16)
  pub apart : (i j : ℕ) (v w : List Bool) → slice_get ws i ≡ Some v → slice_get ws j ≡ Some w → begins v w ≡ true → i ≡ j

-- the codeword of a symbol, if the table has so many
abbrev pub table_code : List (List Bool) → ℕ → Option (List Bool)
table_code ws s = slice_get ws s

-- the index of the codeword that is v, from `i` on
abbrev pub index_from : ℕ → List Bool → List (List Bool) → Option ℕ
index_from i v [] = None
index_from i v (w ∷ ws) = cond (begins v w && begins w v) (Some i) (index_from (suc i) v ws)

-- What is known once the bits `read` are read: they begin no codeword; they are one; or the next bit tells.
abbrev pub settle_read : List (List Bool) → List Bool → Outcome ℕ → Outcome ℕ
settle_read ws read later = cond (begins_one read ws) (whole (index_from 0 read ws)) (refused garbled (length read))
  where
    whole : Option ℕ → Outcome ℕ
    whole None = later
    whole (Some i) = symbol i (length read)

-- after the bits `read`, with these bits to come
abbrev pub table_from : List (List Bool) → List Bool → List Bool → Outcome ℕ
table_from ws read [] = settle_read ws read (short dry)
table_from ws read (b ∷ coming) = settle_read ws read (table_from ws (read ++ (b ∷ [])) coming)

-- What decoding with a table comes to: garbled as soon as the bits read, even none, begin no codeword, and dry at the end.
abbrev pub table_outcome : List (List Bool) → List Bool → Outcome ℕ
table_outcome ws coming = table_from ws [] coming
