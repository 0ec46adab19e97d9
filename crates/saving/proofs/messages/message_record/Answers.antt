-- `saving::messages::message_record` meets its contract: each field is what its definition says. Assumes nothing.
use Rattle.saving.specs.Records.{message_record_words}
use Rattle.saving.proofs.Givens.{numbers_given, expiry_given}
use Rattle.saving.proofs.messages.message_record.Goals as goal

pub returns : goal.returns
unfolding message_record_words
returns c =
    rw (
      c.given-unordered.ensures.0,
      c.given-mid_given.ensures.0,
      c.is_some-has_numbers.ensures,
      numbers_given c.args.m.numbers,
      c.mid_in-mid.ensures,
      c.ssn_in-ssn.ensures,
      c.given-lifetime.ensures.0,
      c.is_some-expires.ensures,
      expiry_given c.args.m.expires_at,
      c.ms_left.ensures,
    )
