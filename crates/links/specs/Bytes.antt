-- What rows handed in as bytes come to.
use Rattle.std.specs.Prelude.{◌≡◌, ℕ, ◌+◌, ◌%◌, ◌<◌, ◌≤◌, List, [], ◌∷◌, ◌++◌, length, Ok, Err, Result, ◌≢◌, slice_index_or}
use Rattle.std.specs.Simd.{first_chunks}
use Rattle.model.specs.declared.refusal.Refusal.{Refusal}
use Rattle.model.specs.declared.refusal.Refusal.TheVariants.{Ragged}
use Rattle.model.specs.Bytes.{row_at, first_rows, whole_rows}
use Rattle.links.specs.declared.answer.Added.{Added}
use Rattle.links.specs.declared.answer.Added.TheVariants.{New, Already}
use Rattle.links.specs.declared.answer.RowFault.{RowFault}
use Rattle.links.specs.declared.answer.RowFault.TheVariants.{Table, Ragged as Unfinished}
use Rattle.links.specs.declared.answer.RowsAdded.{RowsAdded}
use Rattle.links.specs.declared.answer.RowsFault.{RowsFault}
use Rattle.links.specs.declared.answer.TableFault.{TableFault}
use Rattle.links.specs.declared.table.LinkTable.{LinkTable}
use Rattle.links.specs.Answers.{refusal_of}
use Rattle.links.specs.Histories.{RowCall, RowChain, rows_of}

-- the refusal behind the fault of a row
abbrev pub row_refusal : RowFault → Refusal
row_refusal (Table e) = refusal_of e
row_refusal Unfinished = Ragged

-- the values that the fault of rows carries: the index of the first row that is refused or unfinished, from 0
abbrev pub rows_fault_values : RowsFault → List ℕ
rows_fault_values f = f.row ∷ []

-- all rows are accepted
abbrev pub AllAccepted : List RowCall → Type 0
AllAccepted [] = Unit {0}
AllAccepted (c ∷ cs) = ((a : Added) × (c.answer ≡ Ok a)) × AllAccepted cs

-- one more where the row's link was in already
abbrev pub repeat_of : Result Added TableFault → ℕ
repeat_of (Ok New) = 0
repeat_of (Ok Already) = 1
repeat_of (Err e) = 0

-- how many rows had a link that was in already
abbrev pub repeats : List RowCall → ℕ
repeats [] = 0
repeats (c ∷ cs) = repeat_of c.answer + repeats cs

-- The rows of bytes, up to the first that is refused: just these were handed in, in order, and all but a refused one were accepted. An
-- unfinished row comes after the whole ones.
abbrev pub HandedIn : List ℕ → List RowCall → Result RowsAdded RowsFault → Type 0
HandedIn bytes calls (Ok a) =
    (a.rows ≡ whole_rows bytes) × (rows_of calls ≡ first_rows bytes (whole_rows bytes)) × (length bytes % 8 ≡ 0) × AllAccepted calls × (a.repeats ≡ repeats calls)
HandedIn bytes calls (Err f) = Stopped f.fault
  where
    Stopped : RowFault → Type 0
    Stopped (Table e) =
        (before : List RowCall)
        × (calls ≡ before ++ (record { row = row_at bytes f.row; answer = Err e } ∷ []))
        × (rows_of before ≡ first_rows bytes f.row)
        × AllAccepted before
        × (f.row < whole_rows bytes)
    Stopped Unfinished = (f.row ≡ whole_rows bytes) × (rows_of calls ≡ first_rows bytes (whole_rows bytes)) × (length bytes % 8 ≢ 0) × AllAccepted calls

-- What `add_rows` does: calls of `add`, and what they come to.
pub record RowsTaken (t : LinkTable) (bytes : List ℕ) (answer : Result RowsAdded RowsFault) (t' : LinkTable) : Type 0 where
  pub calls : List RowCall
  pub chain : RowChain t calls t'
  pub handed : HandedIn bytes calls answer

-- The first i rows were handed in and accepted, and so many of them repeated a link.
pub record Accepted (t : LinkTable) (bytes : List ℕ) (i count : ℕ) (u : LinkTable) : Type 0 where
  pub calls : List RowCall
  pub chain : RowChain t calls u
  pub rows : rows_of calls ≡ first_rows bytes i
  pub all : AllAccepted calls
  pub counted : count ≡ repeats calls
  pub few : count ≤ i

-- the 8 bytes are the row at an index
abbrev pub IsRowAt : List ℕ → ℕ → List ℕ → Type 0
IsRowAt bytes i row = (i < whole_rows bytes) × (row ≡ slice_index_or (first_chunks 8 (whole_rows bytes) bytes) i [])

-- What the row at an index comes to where all before it were accepted: one more is accepted, or this is the first that is refused.
abbrev pub RowDone : List ℕ → ℕ → LinkTable → Result Added RowsFault → LinkTable → Type 0
RowDone bytes i u (Ok a) v = (t : LinkTable) (count more : ℕ) → Accepted t bytes i count u → more ≡ count + repeat_of (Ok a) → Accepted t bytes (i + 1) more v
RowDone bytes i u (Err f) v = (t : LinkTable) (count : ℕ) → Accepted t bytes i count u → RowsTaken t bytes (Err f) v
