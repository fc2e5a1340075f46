-- Lemmas: the laws of a codebook, for the Exp-Golomb code at any word type.
use Rattle.std.proofs.Common.{◌≡◌, ℕ, ◌≤◌, Bool, List, length, Option, sym, ap, ◌∙◌}
use Rattle.model.specs.Codebooks.{Finds, Found, Lengths, Outcome, Part, PrefixFree, Unread, on_symbol, refused, short, symbol}
use Rattle.model.specs.Golomb.{code_at, parse}
use Rattle.model.proofs.Clause.{apart_from_finds, parsing}

symbol_of : {S T : Type 0} (f : S → T) (o : Outcome S) (t : T) (n : ℕ) → on_symbol f o ≡ symbol t n → (s : S) × (o ≡ symbol s n) × (f s ≡ t)
symbol_of f (symbol s m) t n e = let i : m ≡ n = cc in (s, ap (symbol s) i, cc)
symbol_of f (refused why m) t n e = absurd cc
symbol_of f (short why) t n e = absurd cc

refused_of : {S T : Type 0} (f : S → T) (o : Outcome S) (why : Unread) (n : ℕ) → on_symbol f o ≡ refused why n → o ≡ refused why n
refused_of f (symbol s m) why n e = absurd cc
refused_of f (refused w m) why n e = let i : m ≡ n = cc in let j : w ≡ why = cc in cc
refused_of f (short w) why n e = absurd cc

module _ {E N : Type 0} (B : ℕ) (number : N → ℕ) (word : ℕ → N) where
  abbrev code : E → N → Option (List Bool)
  code _ s = code_at B (number s)

  abbrev outcome : E → List Bool → Outcome N
  outcome _ coming = on_symbol word (parse B coming)

  pub lengths : B ≤ 64 → Lengths {B = E} (λ _. N) code
  lengths few e s v c = (parsing B).lengths few tt (number s) v c

  pub finds : ((x : N) → word (number x) ≡ x) → Finds {B = E} (λ _. N) code outcome
  finds back e s v rest c = ap (on_symbol word) ((parsing B).finds tt (number s) v rest c) ∙ ap (λ x. symbol x (length v)) (back s)

  pub apart : ((x : N) → word (number x) ≡ x) → PrefixFree {B = E} (λ _. N) code
  apart back = apart_from_finds (λ _. N) code outcome (finds back)

  pub found : ((n : ℕ) → number (word n) ≡ n) → Found {B = E} (λ _. N) code outcome
  found there e s n coming o =
      let m = symbol_of word (parse B coming) s n o in
      let f = (parsing B).found tt m.0 n coming m.1 in
      (ap (code_at B) (ap number (sym m.2) ∙ there m.0) ∙ f.0, f.1)

  pub part : Part {B = E} (λ _. N) code outcome
  part e why n coming o = (parsing B).part tt why n coming (refused_of word (parse B coming) why n o)
