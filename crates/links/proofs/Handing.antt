-- Rows handed in one after the other.
use Rattle.std.proofs.Common.{◌≡◌, ℕ, ◌+◌, ◌<◌, ◌≤◌, List, [], ◌∷◌, ◌++◌, zero, suc, ◌*◌, drop, get_or, Ok, Err, Result, IsErrAnd, MatchResult, sym, refl, ap, ◌∙◌, subst, add-one, arith}
use Rattle.std.proofs.lemmas.List.{map-append, get_or-take, get_or-drop}
use Rattle.std.specs.Simd.{first_chunks}
use Rattle.model.specs.declared.link.Row.{Row}
use Rattle.model.specs.Bytes.{row_at, first_rows, whole_rows}
use Rattle.links.specs.declared.answer.Added.{Added}
use Rattle.links.specs.declared.answer.Added.TheVariants.{New, Already}
use Rattle.links.specs.declared.answer.RowFault.TheVariants.{Table}
use Rattle.links.specs.declared.answer.RowsFault.{RowsFault}
use Rattle.links.specs.declared.answer.TableFault.{TableFault}
use Rattle.links.specs.declared.table.LinkTable.{LinkTable}
use Rattle.links.specs.Bytes.{Accepted, AllAccepted, IsRowAt, RowDone, RowsTaken, repeat_of, repeats}
use Rattle.links.specs.Histories.{RowTaken, RowCall, RowChain, no_row, row_then}

-- one call more
pub chain_more : {t u v : LinkTable} {calls : List RowCall} {call : RowCall} → RowChain t calls u → RowTaken u call.row call.answer v → RowChain t (calls ++ (call ∷ [])) v
chain_more no_row s = row_then s no_row
chain_more (row_then r c) s = row_then r (chain_more c s)

accepted_more : (calls : List RowCall) (call : RowCall) → AllAccepted calls → (a : Added) → call.answer ≡ Ok a → AllAccepted (calls ++ (call ∷ []))
accepted_more [] call h a e = ((a, e), tt)
accepted_more (c ∷ cs) call h a e = (h.0, accepted_more cs call h.1 a e)

repeats-more : (calls : List RowCall) (call : RowCall) → repeats (calls ++ (call ∷ [])) ≡ repeats calls + repeat_of call.answer
repeats-more [] call = omega arith
repeats-more (c ∷ cs) call = let h = repeats-more cs call in omega arith

pub none_yet : (t : LinkTable) (bytes : List ℕ) → Accepted t bytes 0 0 t
none_yet t bytes = record { calls = []; chain = no_row; rows = refl; all = tt; counted = refl; few = omega arith }

at_most_one : (a : Added) → repeat_of (Ok a) ≤ 1
at_most_one New = omega arith
at_most_one Already = omega arith

-- the next row is accepted
pub one_more : {t u v : LinkTable} {bytes : List ℕ} {i count : ℕ} → Accepted t bytes i count u → (a : Added) → RowTaken u (row_at bytes i) (Ok a) v → (more : ℕ) → more ≡ count + repeat_of (Ok a) → Accepted t bytes (i + 1) more v
one_more {bytes = bytes} {i = i} h a s more e =
    let call : RowCall = record { row = row_at bytes i; answer = Ok a } in
    let m = at_most_one a in
    record {
      calls = h.calls ++ (call ∷ []);
      chain = chain_more {call = call} h.chain s;
      rows = map-append (λ c. c.row) h.calls (call ∷ []) ∙ ap (λ (z : List Row). z ++ (row_at bytes i ∷ [])) h.rows ∙ ap (first_rows bytes) (sym (add-one i));
      all = accepted_more h.calls call h.all a refl;
      counted = e ∙ ap (λ (n : ℕ). n + repeat_of (Ok a)) h.counted ∙ sym (repeats-more h.calls call);
      few = let f = h.few in omega arith;
    }

-- the next row is refused
pub stopped : {t u v : LinkTable} {bytes : List ℕ} {i count : ℕ} → Accepted t bytes i count u → (e : TableFault) → RowTaken u (row_at bytes i) (Err e) v → i < whole_rows bytes → RowsTaken t bytes (Err (record { row = i; fault = Table e })) v
stopped {bytes = bytes} {i = i} h e s lt =
    let call : RowCall = record { row = row_at bytes i; answer = Err e } in
    record {
      calls = h.calls ++ (call ∷ []);
      chain = chain_more {call = call} h.chain s;
      handed = (h.calls, refl, h.rows, h.all, lt);
    }

-- the bytes of a row, among all bytes
chunk_byte : (n i k j : ℕ) (bytes : List ℕ) → i < n → k < 8 → j ≡ 8 * i + k → get_or (get_or (first_chunks 8 n bytes) i []) k 0 ≡ get_or bytes j 0
chunk_byte zero i k j bytes lt small e = absurd (omega arith)
chunk_byte (suc n) zero k j bytes lt small e = get_or-take 8 bytes k 0 small ∙ ap (λ m. get_or bytes m 0) (let p : k ≡ j = omega arith in p)
chunk_byte (suc n) (suc i) k j bytes lt small e =
    chunk_byte n i k (8 * i + k) (drop 8 bytes) (omega arith) small refl
    ∙ get_or-drop 8 bytes (8 * i + k) 0
    ∙ ap (λ m. get_or bytes m 0) (let p : 8 + (8 * i + k) ≡ j = omega arith in p)

chunk_row : (n i : ℕ) (bytes : List ℕ) → i < n → row_at (get_or (first_chunks 8 n bytes) i []) 0 ≡ row_at bytes i
chunk_row n i bytes lt =
    let b0 = chunk_byte n i 0 (8 * i) bytes lt (omega arith) (omega arith) in
    let b1 = chunk_byte n i 1 (8 * i + 1) bytes lt (omega arith) (omega arith) in
    let b2 = chunk_byte n i 2 (8 * i + 2) bytes lt (omega arith) (omega arith) in
    let b3 = chunk_byte n i 3 (8 * i + 3) bytes lt (omega arith) (omega arith) in
    let b4 = chunk_byte n i 4 (8 * i + 4) bytes lt (omega arith) (omega arith) in
    let b5 = chunk_byte n i 5 (8 * i + 4 + 1) bytes lt (omega arith) (omega arith) in
    let b6 = chunk_byte n i 6 (8 * i + 4 + 2) bytes lt (omega arith) (omega arith) in
    let b7 = chunk_byte n i 7 (8 * i + 4 + 3) bytes lt (omega arith) (omega arith) in
    cc

-- what the row at an index comes to, by the table's answer to it
pub row_done : {u v : LinkTable} (bytes : List ℕ) (i : ℕ) (row : List ℕ) → IsRowAt bytes i row → (a : Result Added TableFault) (r : Result Added RowsFault) → RowTaken u (row_at row 0) a v → MatchResult a (λ x. r ≡ Ok x) (λ e. IsErrAnd r (λ f. f ≡ record { row = i; fault = Table e })) → RowDone bytes i u r v
row_done {u} {v} bytes i row at (Ok x) r s told =
    let same : row_at row 0 ≡ row_at bytes i = ap (λ b. row_at b 0) at.1 ∙ chunk_row (whole_rows bytes) i bytes at.0 in
    subst (λ q. RowDone bytes i u q v) (sym told) (λ t count more h e. one_more h x (subst (λ q. RowTaken u q (Ok x) v) same s) more e)
row_done bytes i row at (Err e) (Ok x) s told = absurd told
row_done {u} {v} bytes i row at (Err e) (Err f) s told =
    let same : row_at row 0 ≡ row_at bytes i = ap (λ b. row_at b 0) at.1 ∙ chunk_row (whole_rows bytes) i bytes at.0 in
    subst (λ q. RowDone bytes i u (Err q) v) (sym told) (λ t count h. stopped h e (subst (λ q. RowTaken u q (Err e) v) same s) at.0)

pub err_and : {X Y : Type 0} {P Q : Y → Type 0} (r : Result X Y) → IsErrAnd r P → ((y : Y) → P y → Q y) → IsErrAnd r Q
err_and (Ok x) p f = absurd p
err_and (Err y) p f = f y p
