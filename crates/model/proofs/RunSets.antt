-- Runs stand for link sets: a run is read exactly when it is one link set's, and two runs have equal words exactly when their sets are equal.
use Rattle.std.proofs.Common.{◌≡◌, ℕ, ◌<◌, ◌⊎◌, List, [], length, Some, None, Ok, Err, Option, Result, sym, refl, ap, ◌∙◌, subst, inl, inr, arith}
use mathlib.Core.List.{reverse-reverse}
use Rattle.model.specs.declared.link.Link.{Link}
use Rattle.model.specs.declared.refusal.Refusal.{Refusal}
use Rattle.model.specs.AcceptedRuns.{AcceptedExactlyWhenOneLinkSetsRun}
use Rattle.model.specs.Cells.{Place, Fits, word_places, Cell, bits}
use Rattle.model.specs.Degrees.{DegreeAnswered, degree}
use Rattle.model.specs.EqualRuns.{AcceptedRun, written, offered, EqualWordsExactlyWhenEqualLinks}
use Rattle.model.specs.Golomb.{codewords}
use Rattle.model.specs.Links.{Each, LinkSet, SameLinks}
use Rattle.model.specs.Reading.{RunOpened, LinksRead, ReadWhole, ReadStopped, at_opening, at_link}
use Rattle.model.specs.Refusals.{Answer}
use Rattle.model.specs.Runs.{RunStop, start, symbols, held_after, run_of}
use Rattle.model.proofs.LinkReads.{links_are, links_read, links_once, links_end}
use Rattle.model.proofs.Openings.{opened_is, sealed_opens, opened_once, opened_some}
use Rattle.model.proofs.Steps.{after_start, ascending, same_list}

-- a link set and its run
abbrev pub IsRun : ℕ → List Place → List Link → Type 0
IsRun w ps xs = LinkSet xs × (ps ≡ word_places (run_of w xs))

-- read whole, or refused
abbrev pub Answered : ℕ → List Place → Type 0
Answered w ps = ((xs : List Link) × ReadWhole w ps xs) ⊎ ((xs : List Link) × (f : RunStop) × (left : List Cell) × ReadStopped w ps xs f left)

-- what is read whole is a run
pub whole_is : (w : ℕ) (ps : List Place) (xs : List Link) → 0 < w → Each (Fits w) ps → ReadWhole w ps xs → IsRun w ps xs
whole_is w ps xs pos f r =
    let (c, l, a, _) = links_are (omega arith) r.reads in
    ((l, ascending start xs a), opened_is w ps r.opened (codewords (symbols xs)) pos f r.opens c)

-- and a run is read whole
pub run_whole : (w : ℕ) (ps : List Place) (xs : List Link) → 0 < w → IsRun w ps xs → ReadWhole w ps xs
run_whole w ps xs pos (s, e) =
    let v = codewords (symbols xs) in
    let o : RunOpened w (word_places (run_of w xs)) (Ok tt) (bits v) =
    subst (λ t. RunOpened w (word_places (run_of w xs)) (Ok tt) (bits t)) (reverse-reverse v) (sealed_opens w (held_after start xs) pos) in
    subst (λ t. ReadWhole w t xs) (sym e) (record {
      opened = bits v;
      opens = o;
      left = [];
      reads = links_read start (bits v) xs s.0 (after_start xs s) refl;
    })

-- ---- what is read is settled

module _ (w : ℕ) (ps : List Place) (pos : 0 < w) where
  opened_same : (a b : List Cell) → RunOpened w ps (Ok tt) a → RunOpened w ps (Ok tt) b → a ≡ b
  opened_same a b p q = (opened_once w ps (Ok tt) (Ok tt) a b pos p q).1

  opened_not : (a b : List Cell) (why : Refusal) → RunOpened w ps (Ok tt) a → RunOpened w ps (Err why) b → ⊥
  opened_not a b why p q =
      let e : ◌≡◌ {A = Answer (Unit {0})} (Ok tt) (Err why) = (opened_once w ps (Ok tt) (Err why) a b pos p q).0 in
      let no : ◌≡◌ {A = ℕ} 0 1 = cc in
      omega arith

  pub whole_once : (xs ys : List Link) → ReadWhole w ps xs → ReadWhole w ps ys → xs ≡ ys
  whole_once xs ys r s =
      let e = opened_same r.opened s.opened r.opens s.opens in
      (links_once r.reads (subst (λ t. LinksRead start t ys None s.left) (sym e) s.reads)).0

  whole_apart : (xs ys : List Link) (f : RunStop) (left : List Cell) → ReadWhole w ps xs → ReadStopped w ps ys f left → ⊥
  whole_apart xs ys f left r (at_opening {why = why} {coming = coming} q) = opened_not r.opened coming why r.opens q
  whole_apart xs ys f left r (at_link {opened = opened} {why = why} q s) =
      let e = opened_same r.opened opened r.opens q in
      let n : ◌≡◌ {A = Option Refusal} None (Some why) = (links_once r.reads (subst (λ t. LinksRead start t ys (Some why) left) (sym e) s)).1 in
      let no : ◌≡◌ {A = ℕ} 0 1 = cc in
      omega arith

  stop_same : (m n : ℕ) (d e : Refusal) → m ≡ n → d ≡ e → ◌≡◌ {A = RunStop} (record { index = m; why = d }) (record { index = n; why = e })
  stop_same m n d e p q = λ i. record { index = p i; why = q i }

  stopped_once : (xs ys : List Link) (f g : RunStop) (left after : List Cell) → ReadStopped w ps xs f left → ReadStopped w ps ys g after → (f ≡ g) × (xs ≡ ys) × (left ≡ after)
  stopped_once xs ys f g left after (at_opening {why = d} p) (at_opening {why = e} q) =
      let s = opened_once w ps (Err d) (Err e) left after pos p q in
      let t : ◌≡◌ {A = Answer (Unit {0})} (Err d) (Err e) = s.0 in
      let i : d ≡ e = cc in
      (stop_same 0 0 d e refl i, refl, s.1)
  stopped_once xs ys f g left after (at_opening {why = d} p) (at_link {opened = b} q s) = absurd (opened_not b left d q p)
  stopped_once xs ys f g left after (at_link {opened = a} p r) (at_opening {why = e} q) = absurd (opened_not a after e p q)
  stopped_once xs ys f g left after (at_link {opened = a} {why = d} p r) (at_link {opened = b} {why = e} q s) =
      let t = opened_same a b p q in
      let l = links_once r (subst (λ u. LinksRead start u ys (Some e) after) (sym t) s) in
      let k : ◌≡◌ {A = Option Refusal} (Some d) (Some e) = l.1 in
      let i : d ≡ e = cc in
      (stop_same (length xs) (length ys) d e (ap length l.0) i, l.0, l.2)

  some_end : Answered w ps
  some_end = let (r, coming, o) = opened_some w ps pos in by_opening r coming o
    where
      by_links : (opened : List Cell) (xs : List Link) (ending : Option Refusal) (left : List Cell) → RunOpened w ps (Ok tt) opened → LinksRead start opened xs ending left → Answered w ps
      by_links opened xs None left o l = inl (xs, record { opened = opened; opens = o; left = left; reads = l })
      by_links opened xs (Some why) left o l = inr (xs, record { index = length xs; why = why }, left, at_link o l)

      by_opening : (r : Answer (Unit {0})) (coming : List Cell) → RunOpened w ps r coming → Answered w ps
      by_opening (Err why) coming o = inr ([], record { index = 0; why = why }, coming, at_opening o)
      by_opening (Ok tt) coming o = let (xs, ending, left, l) = links_end start coming in by_links coming xs ending left o l

  degree_is : (xs : List Link) (node : ℕ) (r : Result ℕ RunStop) → ReadWhole w ps xs → DegreeAnswered w ps node r → r ≡ Ok (degree node xs)
  degree_is xs node (Ok n) r (ys, s, e) = ap Ok (e ∙ ap (degree node) (whole_once ys xs s r))
  degree_is xs node (Err f) r (ys, left, s) = absurd (whole_apart xs ys f left r s)

pub accepted_exactly_when_one_link_sets_run : AcceptedExactlyWhenOneLinkSetsRun
accepted_exactly_when_one_link_sets_run w ps pos f = record {
  exactly = λ xs. (whole_is w ps xs pos f, run_whole w ps xs pos);
  one = whole_once w ps pos;
  otherwise = some_end w ps pos;
  settled = stopped_once w ps pos;
  apart = whole_apart w ps pos;
  degrees = degree_is w ps pos;
}

-- ---- equal words

accepted_is : (w : ℕ) (ps : List Place) (xs : List Link) → 0 < w → AcceptedRun w ps xs → IsRun w ps xs
accepted_is w ps xs pos (written rows s same (_, _, e)) = (s, e)
accepted_is w ps xs pos (offered f r) = whole_is w ps xs pos f r

pub equal_words_exactly_when_equal_links : EqualWordsExactlyWhenEqualLinks
equal_words_exactly_when_equal_links w ps qs xs ys pos a b =
    let p = accepted_is w ps xs pos a in
    let q = accepted_is w qs ys pos b in (
      λ e.
          let s : xs ≡ ys = whole_once w ps pos xs ys (run_whole w ps xs pos p) (subst (λ t. ReadWhole w t ys) (sym e) (run_whole w qs ys pos q)) in
          subst (SameLinks xs) s (λ l. (λ i. i, λ i. i)),
      λ same.
          let s : xs ≡ ys = same_list xs ys p.0.1 q.0.1 same in
          p.1 ∙ ap (λ t. word_places (run_of w t)) s ∙ sym q.1,
    )
