-- What reading up to the first one bit, and then as many bits again, comes to.
use Rattle.std.proofs.Common.{◌≡◌, ℕ, ◌+◌, ◌-◌, ◌^◌, ◌<◌, ◌≤◌, Bool, true, List, [], ◌∷◌, ◌++◌, length, drop, Some, None, Ok, Err, Option, Result, sym, refl, ap, ◌∙◌, subst, ap₂, append_assoc, append-nil, arith, length-append}
use lib.ListN.{length-replicate}
use Rattle.model.specs.declared.refusal.Refusal.{Refusal}
use Rattle.model.specs.declared.refusal.Refusal.TheVariants.{Garbled, BadRecord}
use Rattle.model.specs.Bits.{value, zeros}
use Rattle.model.specs.Cells.{Cell, ahead, bad, beyond, bit, bits}
use Rattle.model.specs.Codebooks.{Decoded, garbled, ran_out, refused, short, symbol}
use Rattle.model.specs.Golomb.{parse}
use Rattle.model.specs.Refusals.{Answer}
use Rattle.model.proofs.CellLists.{ahead-bits, bits-append, drop_bits}
use Rattle.model.proofs.Codes.{parse_none, parse-one, rest_many, rest_past, rest-short, rest_symbol}
use Rattle.model.proofs.Numbers.{value_lt}
use Rattle.backends.specs.declared.fault.ReadFault.{ReadFault}
use Rattle.backends.specs.Answers.{read_refusal, told_read}
use Rattle.codebooks.specs.Streams.{ManyRead, Number, OneRead}
use Rattle.exp_golomb.specs.Parsed.{FirstOne, MoreBits, Short}

beyond-bits : (v : List Bool) (cs : List Cell) → beyond (bits v ++ cs) ≡ beyond cs
beyond-bits [] cs = refl
beyond-bits (b ∷ v) cs = beyond-bits v cs

module _ (B : ℕ) (cs cs' : List Cell) where
  -- by the outcome
  ran_out_lem : (a : Answer ℕ) → parse B (ahead cs) ≡ short garbled → beyond cs ≡ cs' → a ≡ ran_out garbled cs' → Decoded (parse B (ahead cs)) cs a cs'
  ran_out_lem a p e r = subst (λ o. Decoded o cs a cs') (sym p) (r ∙ ap (ran_out garbled) (sym e), sym e)

  not_read : (n : ℕ) → parse B (ahead cs) ≡ refused garbled n → drop n cs ≡ cs' → Decoded {S = ℕ} (parse B (ahead cs)) cs (Err Garbled) cs'
  not_read n p e = subst (λ o. Decoded {S = ℕ} o cs (Err Garbled) cs') (sym p) (refl, sym e)

  was_read : (s n : ℕ) → parse B (ahead cs) ≡ symbol s n → drop n cs ≡ cs' → Decoded (parse B (ahead cs)) cs (Ok s) cs'
  was_read s n p e = subst (λ o. Decoded o cs (Ok s) cs') (sym p) (refl, sym e)

-- zeros up to the end
pub zeros_end : (B z : ℕ) (cs cs' : List Cell) → cs ≡ bits (zeros z) → cs' ≡ [] → Decoded {S = ℕ} (parse B (ahead cs)) cs (Err Garbled) cs'
zeros_end B z cs cs' e e' =
    let w : cs ≡ bits (zeros z) ++ [] = e ∙ sym (append-nil (bits (zeros z))) in
    ran_out_lem B cs cs' (Err Garbled) (ap (parse B) (ap ahead w ∙ ahead-bits (zeros z) [] ∙ append-nil (zeros z)) ∙ parse_none B z)
    (ap beyond w ∙ beyond-bits (zeros z) [] ∙ sym e') (ap (ran_out garbled) (sym e'))

-- zeros up to a fault
pub zeros_fault : (B z k : ℕ) (rest cs cs' : List Cell) (f : Refusal) → cs ≡ bits (zeros z) ++ (bad k ∷ rest) → f ≡ BadRecord k → cs' ≡ bad k ∷ rest → Decoded {S = ℕ} (parse B (ahead cs)) cs (Err f) cs'
zeros_fault B z k rest cs cs' f e ef e' =
    ran_out_lem B cs cs' (Err f) (ap (parse B) (ap ahead e ∙ ahead-bits (zeros z) (bad k ∷ rest) ∙ append-nil (zeros z)) ∙ parse_none B z)
    (ap beyond e ∙ beyond-bits (zeros z) (bad k ∷ rest) ∙ sym e') (ap Err ef ∙ ap (ran_out garbled) (sym e'))

-- after z zeros and a one bit
module _ (B z : ℕ) (cs cs' : List Cell) (e : cs ≡ bits (zeros z) ++ (bits (true ∷ []) ++ cs')) where
  begins : parse B (ahead cs) ≡ parse B (zeros z ++ (true ∷ ahead cs'))
  begins = ap (parse B) (ap ahead e ∙ ahead-bits (zeros z) (bit true ∷ cs'))

  past_one : cs ≡ bits (zeros z ++ (true ∷ [])) ++ cs'
  past_one = e ∙ sym (append_assoc (bits (zeros z)) (bits (true ∷ [])) cs') ∙ ap (λ x. x ++ cs') (sym (bits-append (zeros z) (true ∷ [])))

  one_long : length (zeros z ++ (true ∷ [])) ≡ z + 1
  one_long = length-append (zeros z) (true ∷ []) ∙ ap (λ n. n + 1) (length-replicate z _)

  -- more than B zeros
  pub many_zeros : B < z → Decoded {S = ℕ} (parse B (ahead cs)) cs (Err Garbled) cs'
  many_zeros l =
      not_read B cs cs' (z + 1) (begins ∙ parse-one B z (ahead cs') ∙ rest_many B z (ahead cs') l)
      (ap₂ drop (sym one_long) past_one ∙ drop_bits (zeros z ++ (true ∷ [])) cs')

  module _ (few : z ≤ B) (v : List Bool) (cs'' : List Cell) (e' : cs' ≡ bits v ++ cs'') where
    begins_then : parse B (ahead cs) ≡ parse B (zeros z ++ (true ∷ (v ++ ahead cs'')))
    begins_then = begins ∙ ap (λ x. parse B (zeros z ++ (true ∷ x))) (ap ahead e' ∙ ahead-bits v cs'')

    past_both : cs ≡ bits ((zeros z ++ (true ∷ [])) ++ v) ++ cs''
    past_both =
        past_one ∙ ap (λ x. bits (zeros z ++ (true ∷ [])) ++ x) e' ∙ sym (append_assoc (bits (zeros z ++ (true ∷ []))) (bits v) cs'')
        ∙ ap (λ x. x ++ cs'') (sym (bits-append (zeros z ++ (true ∷ [])) v))

    -- the end comes first
    pub cut_end : length v < z → cs'' ≡ [] → Decoded {S = ℕ} (parse B (ahead cs)) cs (Err Garbled) cs''
    cut_end l nil =
        let a : ahead cs'' ≡ [] = ap ahead nil in
        ran_out_lem B cs cs'' (Err Garbled)
        (begins_then ∙ ap (λ x. parse B (zeros z ++ (true ∷ x))) (ap (λ x. v ++ x) a ∙ append-nil v) ∙ parse-one B z v ∙ rest-short B z v few l)
        (ap beyond past_both ∙ beyond-bits ((zeros z ++ (true ∷ [])) ++ v) cs'' ∙ ap beyond nil ∙ sym nil) (ap (ran_out garbled) (sym nil))

    -- a fault comes first
    pub cut_fault : (k : ℕ) (rest : List Cell) (f : Refusal) → length v < z → cs'' ≡ bad k ∷ rest → f ≡ BadRecord k → Decoded {S = ℕ} (parse B (ahead cs)) cs (Err f) cs''
    cut_fault k rest f l is ef =
        let a : ahead cs'' ≡ [] = ap ahead is in
        ran_out_lem B cs cs'' (Err f)
        (begins_then ∙ ap (λ x. parse B (zeros z ++ (true ∷ x))) (ap (λ x. v ++ x) a ∙ append-nil v) ∙ parse-one B z v ∙ rest-short B z v few l)
        (ap beyond past_both ∙ beyond-bits ((zeros z ++ (true ∷ [])) ++ v) cs'' ∙ ap beyond is ∙ sym is) (ap Err ef ∙ ap (ran_out garbled) (sym is))

    module _ (whole : length v ≡ z) where
      all_long : length ((zeros z ++ (true ∷ [])) ++ v) ≡ z + 1 + z
      all_long = length-append (zeros z ++ (true ∷ [])) v ∙ ap₂ (λ m n. m + n) one_long whole

      left : drop (z + 1 + z) cs ≡ cs''
      left = ap₂ drop (sym all_long) past_both ∙ drop_bits ((zeros z ++ (true ∷ [])) ++ v) cs''

      pub number_read : (n : ℕ) → n ≡ (2 ^ z - 1) + value v → n < 2 ^ B → Decoded (parse B (ahead cs)) cs (Ok n) cs''
      number_read n is l =
          was_read B cs cs'' n (z + 1 + z)
          (begins_then ∙ parse-one B z (v ++ ahead cs'') ∙ rest_symbol B z v (ahead cs'') few whole (rw is at l) ∙ ap (λ m. symbol m (z + 1 + z)) (sym is)) left

      pub number_past : 2 ^ B ≤ (2 ^ z - 1) + value v → Decoded {S = ℕ} (parse B (ahead cs)) cs (Err Garbled) cs''
      number_past l = not_read B cs cs'' (z + 1 + z) (begins_then ∙ parse-one B z (v ++ ahead cs'') ∙ rest_past B z v (ahead cs'') few whole l) left

-- Zero bits and the first one bit, as they are read.
pub first_one : (cs ds : List Cell) (r : Result (Option ℕ) ReadFault) → OneRead cs (told_read r) ds → FirstOne cs (told_read r) ds
first_one cs ds (Ok (Some m)) (z, is, e) = (
  λ B most l. many_zeros B z cs ds e (omega (arith, is)),
  λ few. let same : z ≡ m = omega (arith, is) in e ∙ ap (λ k. bits (zeros k) ++ (bits (true ∷ []) ++ ds)) same,
)
first_one cs ds (Ok None) (z, e, e') = λ B. zeros_end B z cs ds e e'
first_one cs ds (Err f) (z, (k, rest, e, is, e')) = λ B. zeros_fault B z k rest cs ds (read_refusal f) e is e'

-- The bits after it, as they are read.
pub more-bits : (z : ℕ) (ds ds' : List Cell) (r : Answer Number) → ManyRead z ds r ds' → MoreBits z ds r ds'
more-bits z ds ds' (Ok n) (v, lv, nv, e', most, ended) =
    λ B cs e few. (
      λ l. cut_end B z cs ds e few v ds' e' (omega (arith, lv)) (ended l),
      λ l past. number_past B z cs ds e few v ds' e' (omega (arith, lv)) (rw nv past),
      λ k l is below. number_read B z cs ds e few v ds' e' (omega (arith, lv)) k (rw nv is) below,
    )
more-bits z ds ds' (Err f) (v, l, (k, rest, e', is, e'')) =
    λ B cs e few. cut_fault B z cs ds e few v ds' (e' ∙ ap (λ x. bits v ++ x) (sym e'')) k rest f l e'' is

pub few_bits : (z : ℕ) (ds ds' : List Cell) (r : Answer Number) → ManyRead z ds r ds' → Short z r
few_bits z ds ds' (Ok n) (v, lv, nv, e', most, ended) = λ l. let full : length v ≡ z = omega (arith, lv) in rw (nv, full) at (value_lt v)
few_bits z ds ds' (Err f) read = tt
