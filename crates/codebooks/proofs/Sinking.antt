-- One list of bits after another handed to a sink.
use Rattle.std.proofs.Common.{◌≡◌, ◌+◌, ◌≤◌, Bool, List, [], ◌∷◌, ◌++◌, length, take, Ok, Err, sym, refl, ap, ◌∙◌, append_assoc, append-nil, arith, length-append}
use Rattle.std.proofs.Math.Seq.{take-append-add}
use Rattle.std.proofs.lemmas.List.{take-append-le}
use Rattle.model.specs.Cells.{bits}
pub use Rattle.model.proofs.CellLists.{bits-append, length-bits}
use Rattle.model.specs.declared.refusal.Refusal.{Refusal}
use Rattle.model.specs.Refusals.{Answer}
use Rattle.model.specs.Sinks.{Emitted, Sink, Stopped, Took, more}
use Rattle.backends.specs.Chains.{WroteAll, none_left, one_written, one_refused}
use Rattle.codebooks.specs.Sent.{Sent}

module _ (v w : List Bool) (s t : Sink) where
  -- how many cells are taken once v is
  grown : Took v s t → length t.taken ≡ length s.taken + length v
  grown (room, e, l) = ap length e ∙ length-append s.taken (bits v) ∙ ap (λ n. length s.taken + n) (length-bits v)

  pub took_more : (u : Sink) → Took v s t → Took w t u → Took (v ++ w) s u
  took_more u (room, e, l) (room', e', l') =
      let g = grown (room, e, l) in (
        omega (arith, length-append v w, g, l),
        e' ∙ ap (λ cs. cs ++ bits w) e ∙ append_assoc s.taken (bits v) (bits w) ∙ ap (λ cs. s.taken ++ cs) (sym (bits-append v w)),
        l' ∙ l,
      )

  pub stopped_more : (u : Sink) → Took v s t → Stopped w t u → Stopped (v ++ w) s u
  stopped_more u (room, e, l) (none, e', l') =
      let g = grown (room, e, l) in
      let m : more s ≡ length v + more t = omega (arith, g, l) in (
        omega (arith, length-append v w, g, l),
        e' ∙ ap (λ cs. cs ++ bits (take (more t) w)) e ∙ append_assoc s.taken (bits v) (bits (take (more t) w))
            ∙ ap (λ cs. s.taken ++ cs) (sym (bits-append v (take (more t) w)) ∙ ap bits (sym (ap (λ n. take n (v ++ w)) m ∙ take-append-add v w (more t)))),
        l' ∙ l,
      )

  pub stopped-front : Stopped v s t → Stopped (v ++ w) s t
  stopped-front (none, e, l) = (
    omega (arith, length-append v w),
    e ∙ ap (λ x. s.taken ++ bits x) (sym (take-append-le (more s) v w (omega arith))),
    l,
  )

module _ {S : Type 0} (held : S → Sink) (emits : S → Bool → Answer (Unit {0}) → S → Type 0) where
  wrote_more : {v w : List Bool} {s t u : S} {r : Answer (Unit {0})} → WroteAll emits s v (Ok tt) t → WroteAll emits t w r u → WroteAll emits s (v ++ w) r u
  wrote_more none_left rest = rest
  wrote_more (one_written x xs) rest = one_written x (wrote_more xs rest)

  wrote_front : {v : List Bool} (w : List Bool) {s t : S} {e : Refusal} → WroteAll emits s v (Err e) t → WroteAll emits s (v ++ w) (Err e) t
  wrote_front w (one_written x xs) = one_written x (wrote_front w xs)
  wrote_front w (one_refused x) = one_refused x

  -- All of v, then w.
  pub sent_more : (v w : List Bool) (s t u : S) (r : Answer (Unit {0})) → Sent held emits v s (Ok tt) t → Sent held emits w t r u → Sent held emits (v ++ w) s r u
  sent_more v w s t u (Ok x) a b = record { means = took_more v w (held s) (held t) (held u) a.means b.means; does = wrote_more a.does b.does }
  sent_more v w s t u (Err x) a b =
      record { means = (b.means.0, stopped_more v w (held s) (held t) (held u) a.means b.means.1); does = wrote_more a.does b.does }

  -- A refusal within v.
  pub sent_front : (v w : List Bool) (s t : S) (e : Refusal) → Sent held emits v s (Err e) t → Sent held emits (v ++ w) s (Err e) t
  sent_front v w s t e a = record { means = (a.means.0, stopped-front v w (held s) (held t) a.means.1); does = wrote_front w a.does }

  -- No bits at all.
  pub sent_none : (s : S) → length (held s).taken ≤ (held s).limit → Sent held emits [] s (Ok tt) s
  sent_none s within = record { means = (omega arith, sym (append-nil (held s).taken), refl); does = none_left }

  -- One bit more.
  pub sent_bit : (v : List Bool) (b : Bool) (s t u : S) → Sent held emits v s (Ok tt) t → Emitted (b ∷ []) (held t) (Ok tt) (held u) → emits t b (Ok tt) u → Sent held emits (v ++ (b ∷ [])) s (Ok tt) u
  sent_bit v b s t u a m d = sent_more v (b ∷ []) s t u (Ok tt) a (record { means = m; does = one_written d none_left })

  -- A bit that is refused, and what would have come behind it.
  pub sent_refused : (v : List Bool) (b : Bool) (rest : List Bool) (s t u : S) (e : Refusal) → Sent held emits v s (Ok tt) t → Emitted (b ∷ []) (held t) (Err e) (held u) → emits t b (Err e) u → Sent held emits (v ++ (b ∷ rest)) s (Err e) u
  sent_refused v b rest s t u e a m d = sent_more v (b ∷ rest) s t u (Err e) a (sent_front (b ∷ []) rest t u e (record { means = m; does = one_refused d }))
