-- Reading links from cells: which links are read, that they are settled, and that reading always ends.
use Rattle.std.proofs.Common.{◌≡◌, ℕ, zero, suc, ◌+◌, ◌^◌, ◌<◌, ◌≤◌, Bool, List, [], ◌∷◌, ◌++◌, length, drop, Some, None, Ok, Err, Option, sym, refl, ap, ◌∙◌, subst, ap₂, ⊎_elim, append_assoc, arith, length-append}
use Rattle.std.proofs.lemmas.Bool.{cases_lt}
use Rattle.model.specs.declared.link.Link.{Link}
use Rattle.model.specs.declared.refusal.Refusal.{Refusal}
use Rattle.model.specs.declared.refusal.Refusal.TheVariants.{TooFar}
use Rattle.model.specs.Cells.{Cell, bit, bad, bits, ahead, beyond}
use Rattle.model.specs.Codebooks.{Outcome, symbol, refused, short, refusal_for, Unread, ran_out, Decoded}
use Rattle.model.specs.Golomb.{codeword, codewords, parse}
use Rattle.model.specs.Links.{IsLink, Before, Each, AscendingFrom}
use Rattle.model.specs.Reading.{NumberRead, HighEnd, LowEnd, LinkRead, LinksRead, at_end, at_refusal, link_then}
use Rattle.model.specs.Refusals.{Answer}
use Rattle.model.specs.Runs.{Step, step_to, link_at, steps_from, symbols_of}
use Rattle.model.proofs.CellLists.{length-bits, bits-append, ahead-bits, drop_bits, first_bits}
use Rattle.model.proofs.Codes.{parts, length-codeword, parse-codeword, parse-found}
use Rattle.model.proofs.OneAnswer.{decodes}
use Rattle.model.proofs.Steps.{link_back, step_back, link_after, link_low, step_small}

-- ---- numbers

codeword_some : (n : ℕ) → 0 < length (codeword n)
codeword_some n = let p = parts n in omega (arith, length-codeword n p.0 p.1 p.2 p.3)

no_symbol : {S : Type 0} (why : Unread) (cs : List Cell) (x : S) → ran_out why cs ≡ Ok x → ⊥
no_symbol why [] x e = let no : ◌≡◌ {A = ℕ} 0 1 = cc in omega arith
no_symbol why (bit b ∷ cs) x e = let no : ◌≡◌ {A = ℕ} 0 1 = cc in omega arith
no_symbol why (bad k ∷ cs) x e = let no : ◌≡◌ {A = ℕ} 0 1 = cc in omega arith

took_symbol : {S : Type 0} (o : Outcome S) (cs cs' : List Cell) (x : S) → Decoded o cs (Ok x) cs' → (n : ℕ) × (o ≡ symbol x n) × (cs' ≡ drop n cs)
took_symbol (symbol y n) cs cs' x (a, e) = let i : y ≡ x = cc in (n, ap (λ z. symbol z n) i, e)
took_symbol (refused why n) cs cs' x (a, e) = let no : ◌≡◌ {A = ℕ} 0 1 = cc in absurd (omega arith)
took_symbol (short why) cs cs' x (a, e) = absurd (no_symbol why (beyond cs) x (sym a))

-- a number that is read is its codeword, and this is taken
number_is : (cs cs' : List Cell) (n : ℕ) → NumberRead cs (Ok n) cs' → (n < 2 ^ 32) × (cs ≡ bits (codeword n) ++ cs')
number_is cs cs' n r =
    let p = took_symbol (parse 32 (ahead cs)) cs cs' n r in
    let f = parse-found 32 n p.0 (ahead cs) p.1 in
    (f.0, first_bits p.0 cs f.2 ∙ ap₂ (λ v t. bits v ++ t) (sym f.1) (sym p.2))

-- and a codeword that comes is read
number_read : (cs cs' : List Cell) (n : ℕ) → n < 2 ^ 32 → cs ≡ bits (codeword n) ++ cs' → NumberRead cs (Ok n) cs'
number_read cs cs' n h e =
    let o : parse 32 (ahead cs) ≡ symbol n (length (codeword n)) =
    ap (λ t. parse 32 (ahead t)) e ∙ ap (parse 32) (ahead-bits (codeword n) cs') ∙ parse-codeword 32 n (ahead cs') h in
    let d : Decoded (symbol n (length (codeword n))) cs (Ok n) cs' = (refl, sym (ap (drop (length (codeword n))) e ∙ drop_bits (codeword n) cs')) in
    subst (λ y. Decoded y cs (Ok n) cs') (sym o) d

decoded : {S : Type 0} (o : Outcome S) (cs : List Cell) → (r : Answer S) × (cs' : List Cell) × Decoded o cs r cs'
decoded (symbol s n) cs = (Ok s, drop n cs, (refl, refl))
decoded (refused why n) cs = (Err (refusal_for why), drop n cs, (refl, refl))
decoded (short why) cs = (ran_out why (beyond cs), beyond cs, (refl, refl))

-- ---- one link

-- the two codewords of a step
abbrev step_bits : Step → List Bool
step_bits s = codeword s.d ++ codeword s.e

high_is : (b x : Link) (d e : ℕ) → HighEnd b d (Ok e) (Ok (Some x)) → (x ≡ link_at b (record { d = d; e = e })) × (x.high < 2 ^ 32)
high_is b x d e (near, far) =
    let y = link_at b (record { d = d; e = e }) in
    ⊎_elim
    (λ l. let q : ◌≡◌ {A = Answer (Option Link)} (Ok (Some x)) (Ok (Some y)) = near l in let i : x ≡ y = cc in (i, subst (λ (z : Link). z.high < 2 ^ 32) (sym i) l))
    (λ l. let q : ◌≡◌ {A = Answer (Option Link)} (Ok (Some x)) (Err TooFar) = far l in let no : ◌≡◌ {A = ℕ} 0 1 = cc in absurd (omega arith))
    (cases_lt y.high (2 ^ 32))

end_is : (b x : Link) (cs cs' : List Cell) (d : ℕ) (e : Answer ℕ) → NumberRead cs e cs' → HighEnd b d e (Ok (Some x)) → (s : Step) × (s.d ≡ d) × (x ≡ link_at b s) × (x.high < 2 ^ 32) × (cs ≡ bits (codeword s.e) ++ cs')
end_is b x cs cs' d (Ok e) n h = let p = high_is b x d e h in (record { d = d; e = e }, refl, p.0, p.1, (number_is cs cs' e n).1)
end_is b x cs cs' d (Err why) n h = let no : ◌≡◌ {A = ℕ} 0 1 = cc in absurd (omega arith)

low_is : (b x : Link) (c mid cs' : List Cell) (d : Answer ℕ) → NumberRead c d mid → LowEnd b d mid (Ok (Some x)) cs' → (s : Step) × (x ≡ link_at b s) × (x.high < 2 ^ 32) × (c ≡ bits (step_bits s) ++ cs')
low_is b x c mid cs' (Err why) n (h, t) = let no : ◌≡◌ {A = ℕ} 0 1 = cc in absurd (omega arith)
low_is b x c mid cs' (Ok d) n (far, near) =
    ⊎_elim
    (λ l. let e = near l in
    let p = end_is b x mid cs' d e.0 e.1 e.2 in
    let s = p.0 in
    (s, p.2, p.3, (number_is c mid d n).1 ∙ ap₂ (λ k t. bits (codeword k) ++ t) (sym p.1) p.4 ∙ sym (append_assoc (bits (codeword s.d)) (bits (codeword s.e)) cs') ∙ ap (λ t. t ++ cs') (sym (bits-append (codeword s.d) (codeword s.e)))))
    (λ l. let f : ◌≡◌ {A = Answer (Option Link)} (Ok (Some x)) (Err TooFar) = (far l).0 in let no : ◌≡◌ {A = ℕ} 0 1 = cc in absurd (omega arith))
    (cases_lt (b.low + d) (2 ^ 32))

-- a link that is read is where a step leads whose codewords are taken
pub link_is : (b x : Link) (cs cs' : List Cell) → LinkRead b cs (Ok (Some x)) cs' → (s : Step) × (x ≡ link_at b s) × (x.high < 2 ^ 32) × (cs ≡ bits (step_bits s) ++ cs')
link_is b x [] cs' (e, t) = let no : ◌≡◌ {A = ℕ} 0 1 = cc in absurd (omega arith)
link_is b x (c ∷ cs) cs' (d, mid, n, l) = low_is b x (c ∷ cs) mid cs' d n l

no_link_read : (b : Link) (cs cs' : List Cell) → LinkRead b cs (Ok None) cs' → (cs ≡ []) × (cs' ≡ [])
no_link_read b [] cs' (e, t) = (refl, t)
no_link_read b (c ∷ cs) cs' (Err why, mid, n, (e, t)) = let no : ◌≡◌ {A = ℕ} 0 1 = cc in absurd (omega arith)
no_link_read b (c ∷ cs) cs' (Ok d, mid, n, (far, near)) =
    ⊎_elim
    (λ l. let e = near l in absurd (no_high d e.0 e.2))
    (λ l. let f : ◌≡◌ {A = Answer (Option Link)} (Ok None) (Err TooFar) = (far l).0 in let no : ◌≡◌ {A = ℕ} 0 1 = cc in absurd (omega arith))
    (cases_lt (b.low + d) (2 ^ 32))
  where
    no_high : (d : ℕ) (e : Answer ℕ) → HighEnd b d e (Ok None) → ⊥
    no_high d (Err why) h = let no : ◌≡◌ {A = ℕ} 0 1 = cc in omega arith
    no_high d (Ok e) (near, far) =
        let y = link_at b (record { d = d; e = e }) in
        ⊎_elim
        (λ l. let q : ◌≡◌ {A = Answer (Option Link)} (Ok None) (Ok (Some y)) = near l in let no : ◌≡◌ {A = ℕ} 0 1 = cc in omega arith)
        (λ l. let q : ◌≡◌ {A = Answer (Option Link)} (Ok None) (Err TooFar) = far l in let no : ◌≡◌ {A = ℕ} 0 1 = cc in omega arith)
        (cases_lt y.high (2 ^ 32))

-- what a read takes
shorter : (s : Step) (cs cs' : List Cell) → cs ≡ bits (step_bits s) ++ cs' → length cs' < length cs
shorter s cs cs' e =
    omega (arith, ap length e, length-append (bits (step_bits s)) cs', length-bits (step_bits s), length-append (codeword s.d) (codeword s.e), codeword_some s.d)

-- a step's codewords that come are read, where its nodes have 32 bits
link_read : (b x : Link) (cs cs' : List Cell) (s : Step) → x ≡ link_at b s → s.d < 2 ^ 32 → s.e < 2 ^ 32 → x.low < 2 ^ 32 → x.high < 2 ^ 32 → cs ≡ bits (step_bits s) ++ cs' → LinkRead b cs (Ok (Some x)) cs'
link_read b x [] cs' s i hd he lo hi e = absurd (omega (arith, shorter s [] cs' e))
link_read b x (c ∷ cs) cs' s i hd he lo hi e =
    let mid = bits (codeword s.e) ++ cs' in
    let e' : c ∷ cs ≡ bits (codeword s.d) ++ mid =
    e ∙ ap (λ t. t ++ cs') (bits-append (codeword s.d) (codeword s.e)) ∙ append_assoc (bits (codeword s.d)) (bits (codeword s.e)) cs' in
    let low : b.low + s.d < 2 ^ 32 = subst (λ (n : ℕ). n < 2 ^ 32) (ap (λ y. y.low) i ∙ link_low b s) lo in
    let high : (link_at b s).high < 2 ^ 32 = subst (λ (y : Link). y.high < 2 ^ 32) i hi in (
      Ok s.d,
      mid,
      number_read (c ∷ cs) mid s.d hd e',
      (
        λ far. absurd (omega arith),
        λ near. (Ok s.e, number_read mid cs' s.e he refl, (λ _. ap (λ y. Ok (Some y)) i, λ far. absurd (omega arith))),
      ),
    )

-- ---- one answer

high_once : (b : Link) (d : ℕ) (e : Answer ℕ) (r r' : Answer (Option Link)) → HighEnd b d e r → HighEnd b d e r' → r ≡ r'
high_once b d (Err why) r r' p q = p ∙ sym q
high_once b d (Ok e) r r' p q =
    let x = link_at b (record { d = d; e = e }) in
    ⊎_elim (λ l. p.0 l ∙ sym (q.0 l)) (λ l. p.1 l ∙ sym (q.1 l)) (cases_lt x.high (2 ^ 32))

low_once : (b : Link) (d : Answer ℕ) (cs a a' : List Cell) (r r' : Answer (Option Link)) → LowEnd b d cs r a → LowEnd b d cs r' a' → (r ≡ r') × (a ≡ a')
low_once b (Err why) cs a a' r r' p q = (p.0 ∙ sym q.0, p.1 ∙ sym q.1)
low_once b (Ok d) cs a a' r r' p q =
    ⊎_elim
    (λ l. let (e, m, h) = p.1 l in
    let (f, n, k) = q.1 l in
    let s = decodes (parse 32 (ahead cs)) cs e f a a' m n in
    (high_once b d e r r' h (subst (λ g. HighEnd b d g r') (sym s.0) k), s.1))
    (λ l. let m = p.0 l in let n = q.0 l in (m.0 ∙ sym n.0, m.1 ∙ sym n.1))
    (cases_lt (b.low + d) (2 ^ 32))

pub link_once : (b : Link) (cs a a' : List Cell) (r r' : Answer (Option Link)) → LinkRead b cs r a → LinkRead b cs r' a' → (r ≡ r') × (a ≡ a')
link_once b [] a a' r r' p q = (p.0 ∙ sym q.0, p.1 ∙ sym q.1)
link_once b (c ∷ cs) a a' r r' (d, mid, m, h) (f, mid', n, k) =
    let s = decodes (parse 32 (ahead (c ∷ cs))) (c ∷ cs) d f mid mid' m n in
    low_once b d mid a a' r r' h (subst (λ t. LowEnd b d t r' a') (sym s.1) (subst (λ g. LowEnd b g mid' r' a') (sym s.0) k))

-- ---- some answer

high_some : (b : Link) (d : ℕ) (e : Answer ℕ) → (r : Answer (Option Link)) × HighEnd b d e r
high_some b d (Err why) = (Err why, refl)
high_some b d (Ok e) =
    let x = link_at b (record { d = d; e = e }) in
    ⊎_elim (λ l. (Ok (Some x), (λ _. refl, λ far. absurd (omega arith)))) (λ l. (Err TooFar, (λ near. absurd (omega arith), λ _. refl))) (cases_lt x.high (2 ^ 32))

low_some : (b : Link) (d : Answer ℕ) (cs : List Cell) → (r : Answer (Option Link)) × (cs' : List Cell) × LowEnd b d cs r cs'
low_some b (Err why) cs = (Err why, cs, (refl, refl))
low_some b (Ok d) cs =
    ⊎_elim
    (λ l. let (e, cs', n) = decoded (parse 32 (ahead cs)) cs in
    let (r, h) = high_some b d e in
    (r, cs', (λ far. absurd (omega arith), λ _. (e, n, h))))
    (λ l. (Err TooFar, cs, (λ _. (refl, refl), λ near. absurd (omega arith))))
    (cases_lt (b.low + d) (2 ^ 32))

link_some : (b : Link) (cs : List Cell) → (r : Answer (Option Link)) × (cs' : List Cell) × LinkRead b cs r cs'
link_some b [] = (Ok None, [], (refl, refl))
link_some b (c ∷ cs) =
    let (d, mid, n) = decoded (parse 32 (ahead (c ∷ cs))) (c ∷ cs) in
    let (r, cs', l) = low_some b d mid in
    (r, cs', (d, mid, n, l))

-- ---- all links

-- links read to the end are where the cells' steps lead, and ascend
pub links_are : {b : Link} {cs left : List Cell} {xs : List Link} → b.low ≤ b.high → LinksRead b cs xs None left → (cs ≡ bits (codewords (symbols_of (steps_from b xs)))) × Each IsLink xs × AscendingFrom b xs × (left ≡ [])
links_are {b} {cs} {left} h (at_end r) = let n = no_link_read b cs left r in (n.0, tt, tt, n.1)
links_are {b} {cs} h (link_then {x = x} {mid = mid} {xs = xs} r rest) =
    let (s, i, hi, e) = link_is b x cs mid r in
    let a = subst (λ (y : Link). (y.low < y.high) × Before b y) (sym i) (link_after b s h) in
    let (c, l, up, none) = links_are (omega arith) rest in
    let t : step_to b x ≡ s = ap (step_to b) i ∙ step_back b s in
    let v = codewords (symbols_of (steps_from x xs)) in
    let k : cs ≡ bits (codeword (step_to b x).d ++ (codeword (step_to b x).e ++ v)) =
    e ∙ ap₂ (λ u w. bits (step_bits u) ++ w) (sym t) c ∙ sym (bits-append (step_bits (step_to b x)) v) ∙ ap bits (append_assoc (codeword (step_to b x).d) (codeword (step_to b x).e) v) in
    (k, ((a.0, hi), l), (a.1, up), none)

-- the links of a set are read from their codewords
pub links_read : (b : Link) (cs : List Cell) (xs : List Link) → Each IsLink xs → AscendingFrom b xs → cs ≡ bits (codewords (symbols_of (steps_from b xs))) → LinksRead b cs xs None []
links_read b cs [] l a e = subst (λ t. LinksRead b t [] None []) (sym e) (at_end (refl, refl))
links_read b cs (x ∷ xs) l a e =
    let s = step_to b x in
    let v = codewords (symbols_of (steps_from x xs)) in
    let small = step_small b x in
    let is = l.0 in
    let k : cs ≡ bits (step_bits s) ++ bits v = e ∙ ap bits (sym (append_assoc (codeword s.d) (codeword s.e) v)) ∙ bits-append (step_bits s) v in
    link_then (link_read b x cs (bits v) s (sym (link_back b x a.0 is)) (omega arith) (omega arith) (omega arith) is.1 k) (links_read x (bits v) xs l.1 a.1 refl)

pub links_once : {b : Link} {cs left after : List Cell} {xs ys : List Link} {e f : Option Refusal} → LinksRead b cs xs e left → LinksRead b cs ys f after → (xs ≡ ys) × (e ≡ f) × (left ≡ after)
links_once {b} {cs} {left} {after} (at_end p) (at_end q) = (refl, refl, (link_once b cs left after (Ok None) (Ok None) p q).1)
links_once {b} {cs} {left} {after} (at_end p) (at_refusal {why = why} q) =
    let s = (link_once b cs left after (Ok None) (Err why) p q).0 in let no : ◌≡◌ {A = ℕ} 0 1 = cc in absurd (omega arith)
links_once {b} {cs} {left} (at_end p) (link_then {x = x} {mid = mid} q _) =
    let s = (link_once b cs left mid (Ok None) (Ok (Some x)) p q).0 in let no : ◌≡◌ {A = ℕ} 0 1 = cc in absurd (omega arith)
links_once {b} {cs} {left} {after} (at_refusal {why = why} p) (at_end q) =
    let s = (link_once b cs left after (Err why) (Ok None) p q).0 in let no : ◌≡◌ {A = ℕ} 0 1 = cc in absurd (omega arith)
links_once {b} {cs} {left} {after} (at_refusal {why = why} p) (at_refusal {why = why'} q) =
    let s = link_once b cs left after (Err why) (Err why') p q in
    let e : ◌≡◌ {A = Answer (Option Link)} (Err why) (Err why') = s.0 in
    let i : why ≡ why' = cc in
    (refl, ap Some i, s.1)
links_once {b} {cs} {left} (at_refusal {why = why} p) (link_then {x = x} {mid = mid} q _) =
    let s = (link_once b cs left mid (Err why) (Ok (Some x)) p q).0 in let no : ◌≡◌ {A = ℕ} 0 1 = cc in absurd (omega arith)
links_once {b} {cs} {left} {after} (link_then {x = x} {mid = mid} p _) (at_end q) =
    let s = (link_once b cs mid after (Ok (Some x)) (Ok None) p q).0 in let no : ◌≡◌ {A = ℕ} 0 1 = cc in absurd (omega arith)
links_once {b} {cs} {left} {after} (link_then {x = x} {mid = mid} p _) (at_refusal {why = why} q) =
    let s = (link_once b cs mid after (Ok (Some x)) (Err why) p q).0 in let no : ◌≡◌ {A = ℕ} 0 1 = cc in absurd (omega arith)
links_once {b} {cs} {left} {after} (link_then {x = x} {mid = mid} p ps) (link_then {x = y} {mid = mid'} {xs = ys} {ending = f} q qs) =
    let s = link_once b cs mid mid' (Ok (Some x)) (Ok (Some y)) p q in
    let e : ◌≡◌ {A = Answer (Option Link)} (Ok (Some x)) (Ok (Some y)) = s.0 in
    let i : x ≡ y = cc in
    let qs' : LinksRead x mid ys f after = subst (λ t. LinksRead x t ys f after) (sym s.1) (subst (λ z. LinksRead z mid' ys f after) (sym i) qs) in
    let r = links_once ps qs' in
    (ap₂ ◌∷◌ i r.0, r.1, r.2)

-- reading ends, since each link takes a cell
abbrev pub Ends : Link → List Cell → Type 0
Ends b cs = (xs : List Link) × (ending : Option Refusal) × (left : List Cell) × LinksRead b cs xs ending left

ends_after : (b : Link) (cs cs' : List Cell) (r : Answer (Option Link)) → ((x : Link) → length cs' < length cs → Ends x cs') → LinkRead b cs r cs' → Ends b cs
ends_after b cs cs' (Ok None) more l = ([], None, cs', at_end l)
ends_after b cs cs' (Err why) more l = ([], Some why, cs', at_refusal l)
ends_after b cs cs' (Ok (Some x)) more l =
    let p = link_is b x cs cs' l in
    let (xs, ending, left, rest) = more x (shorter p.0 cs cs' p.3) in
    (x ∷ xs, ending, left, link_then l rest)

ends_within : (n : ℕ) (b : Link) (cs : List Cell) → length cs ≤ n → Ends b cs
ends_within zero b cs h = let (r, cs', l) = link_some b cs in ends_after b cs cs' r (λ x lt. absurd (omega arith)) l
ends_within (suc n) b cs h = let (r, cs', l) = link_some b cs in ends_after b cs cs' r (λ x lt. ends_within n x cs' (omega arith)) l

pub links_end : (b : Link) (cs : List Cell) → Ends b cs
links_end b cs = ends_within (length cs) b cs (omega arith)
