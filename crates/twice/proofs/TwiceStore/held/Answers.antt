-- That so many slots are held, and what that makes of the places: the only proof of a call that is written by hand.
use Rattle.std.proofs.Common.{◌≡◌, ◌+◌, ◌-◌, reverse, sym, refl, ap, ◌∙◌, arith}
use Rattle.std.proofs.lemmas.List.{length-reverse}
use Rattle.model.specs.Cells.{word, fault}
use Rattle.twice.specs.Places.{places_of, slots_before, slots_of}
use Rattle.twice.specs.Slots.{many, more, newest, none, same-room}
use Rattle.twice.proofs.TwiceStore.held.Goals as goal

pub returns : goal.returns
returns c =
    let bytes = c.args.self.now.bytes.now in
    let pos = c.args.self.now.pos in
    let n = c.min.result in
    let is : n ≡ slots_before bytes pos = omega arith in
    let l = many bytes pos n is in
    record {
      at = is;
      listed = sym l;
      turned = sym (length-reverse (places_of bytes pos) ∙ l);
      none = λ z. let e = none bytes pos n is z in (e, e);
      good = λ w. newest bytes pos n is (word w);
      bad = λ k some e. (k, reverse (places_of bytes (n - 1)), newest bytes pos n is (fault k) some e, refl, refl);
      more = λ w put free e. (omega arith, ap (λ b. places_of b (n + 1)) e ∙ more bytes pos n is w free);
      room = λ w put e. ap slots_of e ∙ same-room bytes n w;
    }
