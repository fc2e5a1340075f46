use Rattle.std.proofs.Common.{◌≡◌, ◌+◌, ◌-◌, reverse, sym, refl, ap, ◌∙◌, arith}
use Rattle.model.specs.Cells.{word, fault}
use Rattle.records.specs.Records.{record_at, record_queue, record_room, record_stack}
use Rattle.records.specs.Places.{many, many_left, many_turned, newest, next, none_held, none_to_come}
use Rattle.records.proofs.Puts.{one_more, same-room}
use Rattle.records.proofs.byte_records.ByteRecords.held.Goals as goal

pub returns : goal.returns
returns g c =
    let bytes = g.B.AsSlice.items c.args.self.now.bytes in
    let pos = c.args.self.now.pos in
    let n = c.min.result in
    let is : n ≡ record_at bytes pos = omega arith in
    let l = many bytes pos n is in
    record {
      at = is;
      listed = sym l;
      turned = sym (many_turned bytes pos n is);
      left = sym (many_left bytes pos n is);
      none_before = λ z. let e = none_held bytes pos n is z in (e, e);
      word_before = λ w some e. newest bytes pos n is (word w) (λ z. omega arith) e;
      fault_before = λ k some e. (k, reverse (record_stack bytes (n - 1)), newest bytes pos n is (fault k) (λ z. omega arith) e, refl, refl);
      none_left = λ z. let e = none_to_come bytes pos n is (omega arith) in (e, e);
      word_next = λ w. next bytes pos n is (word w);
      fault_next = λ k some e. (k, record_queue bytes (n + 1), next bytes pos n is (fault k) some e, refl, refl);
      more = λ w put free small e. (omega arith, ap (λ b. record_stack b (n + 1)) e ∙ one_more bytes pos n w is free small);
      room = λ w put e. ap record_room e ∙ same-room bytes pos n w is;
    }
