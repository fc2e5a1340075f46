-- The Exp-Golomb code, ue(v) of ITU-T H.264, clause 9.1: its codewords, and the parsing process, as two definitions.
use Rattle.std.specs.Prelude.{◌≡◌, ℕ, zero, suc, ◌+◌, ◌-◌, ◌*◌, ◌/◌, ◌^◌, ◌<◌, ◌≤◌, Bool, true, false, cond, List, [], ◌∷◌, ◌++◌, length, take, Some, None, Option, nat_lt}
use Rattle.model.specs.Bits.{in_bits, value, zeros}
use Rattle.model.specs.Codebooks.{Outcome, symbol, refused, short, garbled, Lengths, PrefixFree, Finds, Found, Part}

-- floor (log2 n), for n above 0: how often n can be halved before it is 1, counted in at most `limit` halvings
unfoldable pub halvings : ℕ → ℕ → ℕ
halvings zero n = 0
halvings (suc limit) n = let rest = suc (halvings limit (n / 2)) in cond (nat_lt n 2) 0 rest

unfoldable pub log2 : ℕ → ℕ
log2 n = halvings n n

-- with k = floor (log2 (n + 1)): k zeros, then n + 1 in k + 1 bits, highest first
unfoldable pub codeword : ℕ → List Bool
codeword n = let k = log2 (n + 1) in zeros k ++ in_bits (suc k) (n + 1)

-- at B bits the numbers below 2 ^ B have a codeword
unfoldable pub code_at : ℕ → ℕ → Option (List Bool)
code_at B n = cond (nat_lt n (2 ^ B)) (Some (codeword n)) None

-- the codewords of numbers, one after the other
abbrev pub codewords : List ℕ → List Bool
codewords [] = []
codewords (n ∷ ns) = codeword n ++ codewords ns

-- codeNum = 2 ^ leadingZeroBits - 1 + read_bits (leadingZeroBits), where these bits come
abbrev pub code_num : ℕ → List Bool → ℕ
code_num leadingZeroBits coming = (2 ^ leadingZeroBits - 1) + value (take leadingZeroBits coming)

-- The parsing process after `z` zero bits and the first one bit. More than B zeros stand for no number of B bits, and then only the one
-- bit is taken; exactly B zeros stand for 2 ^ B - 1 alone.
unfoldable pub parse_rest : ℕ → ℕ → List Bool → Outcome ℕ
parse_rest B z coming =
    cond (nat_lt B z) (refused garbled (z + 1))
    (cond (nat_lt (length coming) z) (short garbled)
    (cond (nat_lt (code_num z coming) (2 ^ B)) (symbol (code_num z coming) (z + 1 + z)) (refused garbled (z + 1 + z))))

-- the parsing process after z zero bits: the leading zero bits are counted up to the first one bit
unfoldable pub parse_from : ℕ → ℕ → List Bool → Outcome ℕ
parse_from B z [] = short garbled
parse_from B z (false ∷ coming) = parse_from B (z + 1) coming
parse_from B z (true ∷ coming) = parse_rest B z coming

-- What reading a number of B bits comes to. It is garbled at the end of the bits, too.
abbrev pub parse : ℕ → List Bool → Outcome ℕ
parse B coming = parse_from B 0 coming

-- The clause in its own words, of the two definitions above.
pub record Clause_9_1 : Type 0 where
  -- with k = floor (log2 (n + 1)): k zeros, then n + 1 in k + 1 bits
  pub codewords : (n k : ℕ) → 2 ^ k ≤ n + 1 → n + 1 < 2 ^ (k + 1) → codeword n ≡ zeros k ++ in_bits (k + 1) (n + 1)
  -- codeNum = 2 ^ leadingZeroBits - 1 + read_bits (leadingZeroBits)
  pub code_nums : (B z : ℕ) (v rest : List Bool) → z < B → length v ≡ z → parse B (zeros z ++ (true ∷ (v ++ rest))) ≡ symbol ((2 ^ z - 1) + value v) (2 * z + 1)
  -- B zeros: the largest number alone is one of B bits
  pub largest : (B : ℕ) (rest : List Bool) → parse B (zeros B ++ (true ∷ (zeros B ++ rest))) ≡ symbol (2 ^ B - 1) (2 * B + 1)
  pub past : (B : ℕ) (v rest : List Bool) → length v ≡ B → 0 < value v → parse B (zeros B ++ (true ∷ (v ++ rest))) ≡ refused garbled (2 * B + 1)
  -- more zeros: the one bit is taken, and nothing after it
  pub many : (B z : ℕ) (rest : List Bool) → B < z → parse B (zeros z ++ (true ∷ rest)) ≡ refused garbled (z + 1)
  -- the bits run out
  pub unended : (B z : ℕ) → parse B (zeros z) ≡ short garbled
  pub cut : (B z : ℕ) (rest : List Bool) → z ≤ B → length rest < z → parse B (zeros z ++ (true ∷ rest)) ≡ short garbled

-- The two definitions agree, and they make a codebook: what parsing reads as n is the codeword of n and nothing else, at every B up to 64.
pub record ParsingReadsCodewords (B : ℕ) : Type 0 where
  pub finds : Finds {B = Unit {0}} (λ _. ℕ) (λ _. code_at B) (λ _. parse B)
  pub found : Found {B = Unit {0}} (λ _. ℕ) (λ _. code_at B) (λ _. parse B)
  pub part : Part {B = Unit {0}} (λ _. ℕ) (λ _. code_at B) (λ _. parse B)
  pub apart : PrefixFree {B = Unit {0}} (λ _. ℕ) (λ _. code_at B)
  pub lengths : B ≤ 64 → Lengths {B = Unit {0}} (λ _. ℕ) (λ _. code_at B)
