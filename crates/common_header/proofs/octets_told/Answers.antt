-- `octets_told`: each return is a case of the law of LENGTH in natural numbers.
use Rattle.base.proofs.Tests.{failed, passed}
use Rattle.common_header.proofs.Lengths.{told_over, told_length, told_seven, told_all}
use Rattle.common_header.proofs.octets_told.Goals as goal

pub returns-then-not-is_payload : goal.returns-then-not-is_payload
returns-then-not-is_payload c = record {
  answer = told_over _ _ _ _ c.octets_or_none-n.ensures.answer (failed c.is_payload.ensures.answer c.if-not-is_payload.true);
}

pub returns-then-length_field-length : goal.returns-then-length_field-length
returns-then-length_field-length c = record {
  answer = told_length _ _ _ _ c.octets_or_none-n.ensures.answer
      (passed c.is_payload.ensures.answer c.if-not-is_payload.false) _ c.length_field.ensures.answer.0
      c.if-length_field-length.true;
}

pub returns-then-bit7-seven : goal.returns-then-bit7-seven
returns-then-bit7-seven c = record {
  answer = told_seven _ _ _ _ c.octets_or_none-n.ensures.answer
      (passed c.is_payload.ensures.answer c.if-not-is_payload.false) _ c.length_field.ensures.answer.0
      c.if-length_field-length.false _ c.bit7.ensures.answer.0 c.if-bit7-seven.true;
}

pub returns : goal.returns
returns c = record {
  answer = told_all _ _ _ _ c.octets_or_none-n.ensures.answer
      (passed c.is_payload.ensures.answer c.if-not-is_payload.false) _ c.length_field.ensures.answer.0
      c.if-length_field-length.false _ c.bit7.ensures.answer.0 c.if-bit7-seven.false;
}
