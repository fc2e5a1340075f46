-- The clause's words hold of the codewords and of the parsing process, and the two agree.
use Rattle.std.proofs.Common.{◌≡◌, ℕ, zero, suc, ◌+◌, ◌-◌, ◌*◌, ◌^◌, ◌<◌, ◌≤◌, Bool, true, false, List, [], ◌∷◌, ◌++◌, length, take, drop, replicate, Some, None, Option, sym, refl, ap, ◌∙◌, ap₂, ⊎_elim, append-nil, add-one, arith, length-append, pow_pos, pow_mono, le-ltb, lt-ltb}
use lib.ListN.{length-replicate}
use Rattle.std.proofs.lemmas.List.{length-take-le, take-append-drop}
use Rattle.std.proofs.lemmas.Bool.{cases_lt}
use Rattle.model.specs.Bits.{in_bits, value, zeros}
use Rattle.model.specs.Codebooks.{Outcome, symbol, refused, short, garbled, Unread, Finds, PrefixFree}
use Rattle.model.specs.Golomb.{codeword, code_at, parse_rest, parse, Clause_9_1, ParsingReadsCodewords}
use Rattle.model.proofs.Numbers.{log2_is, two_pow, value_lt}
use Rattle.model.proofs.Codes.{parts, length-codeword, pow_le, parse-one, parse_none, parse-codeword, parse-found, first_one, rest_many, rest-short, rest_symbol, rest_past}

codewords : (n k : ℕ) → 2 ^ k ≤ n + 1 → n + 1 < 2 ^ (k + 1) → codeword n ≡ replicate k false ++ in_bits (k + 1) (n + 1)
unfolding codeword
codewords n k a b =
    ap (λ j. replicate j false ++ in_bits (suc j) (n + 1)) (log2_is (n + 1) k a (rw (add-one k) at b)) ∙ ap (λ j. replicate k false ++ in_bits j (n + 1)) (sym (add-one k))

value-zeros : (k : ℕ) → value (replicate k false) ≡ 0
value-zeros zero = refl
value-zeros (suc k) = omega (arith, value-zeros k)

code_nums : (B z : ℕ) (w rest : List Bool) → z < B → length w ≡ z → parse B (replicate z false ++ (true ∷ (w ++ rest))) ≡ symbol ((2 ^ z - 1) + value w) (2 * z + 1)
code_nums B z w rest h l =
    let v : value w < 2 ^ z = rw l at (value_lt w) in
    let m : suc z ≤ B = h in
    let n : z + 1 + z ≡ 2 * z + 1 = omega arith in
    parse-one B z (w ++ rest) ∙ rest_symbol B z w rest (omega arith) l (omega (arith, two_pow z, pow_mono m, pow_pos z)) ∙ ap (symbol ((2 ^ z - 1) + value w)) n

largest : (B : ℕ) (rest : List Bool) → parse B (replicate B false ++ (true ∷ (replicate B false ++ rest))) ≡ symbol (2 ^ B - 1) (2 * B + 1)
largest B rest =
    let v : (2 ^ B - 1) + value (replicate B false) ≡ 2 ^ B - 1 = omega (arith, value-zeros B) in
    let n : B + 1 + B ≡ 2 * B + 1 = omega arith in
    parse-one B B (replicate B false ++ rest) ∙ rest_symbol B B (replicate B false) rest (omega arith) (length-replicate B false) (omega (arith, v, pow_pos B)) ∙ ap₂ symbol v n

past : (B : ℕ) (w rest : List Bool) → length w ≡ B → 0 < value w → parse B (replicate B false ++ (true ∷ (w ++ rest))) ≡ refused garbled (2 * B + 1)
past B w rest l v =
    let n : B + 1 + B ≡ 2 * B + 1 = omega arith in
    parse-one B B (w ++ rest) ∙ rest_past B B w rest (omega arith) l (omega (arith, pow_pos B)) ∙ ap (refused garbled) n

pub clause : Clause_9_1
clause = record {
  codewords = codewords;
  code_nums = code_nums;
  largest = largest;
  past = past;
  many = λ B z rest h. parse-one B z rest ∙ rest_many B z rest h;
  unended = parse_none;
  cut = λ B z rest h l. parse-one B z rest ∙ rest-short B z rest h l;
}

-- ---- the two definitions make a codebook

pub code-at : (B n : ℕ) → n < 2 ^ B → code_at B n ≡ Some (codeword n)
unfolding code_at
code-at B n h = rw (lt-ltb n (2 ^ B) h)

code_none : (B n : ℕ) → 2 ^ B ≤ n → code_at B n ≡ None
unfolding code_at
code_none B n h = rw (le-ltb n (2 ^ B) h)

pub code_some : (B n : ℕ) (v : List Bool) → code_at B n ≡ Some v → (n < 2 ^ B) × (codeword n ≡ v)
code_some B n v e =
    ⊎_elim (λ l. let x = sym (code-at B n l) ∙ e in (l, cc))
    (λ l. let x = sym (code_none B n l) ∙ e in let no : ◌≡◌ {A = ℕ} 0 1 = cc in absurd (omega arith)) (cases_lt n (2 ^ B))

-- a refusal takes a leading part
parse-part : (B n : ℕ) (why : Unread) (coming : List Bool) → parse B coming ≡ refused why n → n ≤ length coming
parse-part B n why coming e =
    ⊎_elim
    (λ p. let x : ◌≡◌ {A = Outcome ℕ} (short garbled) (refused why n) = sym (ap (parse B) p.1 ∙ parse_none B p.0) ∙ e in
    let no : ◌≡◌ {A = ℕ} 0 1 = cc in absurd (omega arith))
    (λ p. let z = p.0 in
    let rest = p.1 in
    let r : parse_rest B z rest ≡ refused why n = sym (ap (parse B) p.2 ∙ parse-one B z rest) ∙ e in
    let long : length coming ≡ z + suc (length rest) = ap length p.2 ∙ length-append (zeros z) (true ∷ rest) ∙ ap (λ k. k + suc (length rest)) (length-replicate z false) in
    ⊎_elim (λ l. let x = sym (rest_many B z rest l) ∙ r in let en : n ≡ z + 1 = cc in omega arith)
    (λ zB. ⊎_elim (λ l. let x = sym (rest-short B z rest zB l) ∙ r in let no : ◌≡◌ {A = ℕ} 0 1 = cc in absurd (omega arith))
    (λ l. let v = take z rest in
    let lv : length v ≡ z = length-take-le z rest l in
    let cut : v ++ drop z rest ≡ rest = take-append-drop z rest in
    ⊎_elim
    (λ f. let x = sym (ap (parse_rest B z) (sym cut) ∙ rest_symbol B z v (drop z rest) zB lv f) ∙ r in let no : ◌≡◌ {A = ℕ} 0 1 = cc in absurd (omega arith))
    (λ f. let x = sym (ap (parse_rest B z) (sym cut) ∙ rest_past B z v (drop z rest) zB lv f) ∙ r in let en : n ≡ z + 1 + z = cc in omega arith)
    (cases_lt ((2 ^ z - 1) + value v) (2 ^ B)))
    (cases_lt (length rest) z))
    (cases_lt B z))
    (first_one coming)

-- no codeword begins another symbol's, since the bits decide
pub apart_from_finds : {B : Type 0} (Symbol : B → Type 0) (code : (b : B) → Symbol b → Option (List Bool)) (outcome : (b : B) → List Bool → Outcome (Symbol b)) → Finds Symbol code outcome → PrefixFree Symbol code
apart_from_finds Symbol code outcome finds b s t v w rest p q e =
    let x : outcome b w ≡ symbol s (length v) = ap (outcome b) e ∙ finds b s v rest p in
    let y : outcome b w ≡ symbol t (length w) = ap (outcome b) (sym (append-nil w)) ∙ finds b t w [] q in
    cc

parse-finds : (B : ℕ) → Finds {B = Unit {0}} (λ _. ℕ) (λ _. code_at B) (λ _. parse B)
parse-finds B b s v rest c =
    let p = code_some B s v c in
    ap (λ t. parse B (t ++ rest)) (sym p.1) ∙ parse-codeword B s rest p.0 ∙ ap (symbol s) (ap length p.1)

pub parsing : (B : ℕ) → ParsingReadsCodewords B
parsing B = record {
  finds = parse-finds B;
  found = λ b s n coming o. let f = parse-found B s n coming o in (code-at B s f.0 ∙ ap Some f.1, f.2);
  part = λ b why n coming o. parse-part B n why coming o;
  apart = apart_from_finds (λ _. ℕ) (λ _. code_at B) (λ _. parse B) (parse-finds B);
  lengths = λ few b s v c.
      let p = code_some B s v c in
      let q = parts s in
      let l = length-codeword s q.0 q.1 q.2 q.3 in
      let k : q.0 ≤ B = pow_le q.0 B (omega (arith, q.2, p.0)) in
      let e : length (codeword s) ≡ length v = ap length p.1 in
      (omega (arith, l, e), omega (arith, l, e, k));
}
