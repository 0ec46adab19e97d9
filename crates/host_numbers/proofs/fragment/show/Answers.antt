-- `host_numbers::fragment::show` meets its contract: each return is what its definition says, by what the calls ensure and the tests taken. Assumes nothing.
use Rattle.host_numbers.specs.Numbers.{shown}
use Rattle.host_numbers.proofs.fragment.show.Goals as goal

pub returns : goal.returns
unfolding shown
returns c =
    rw (
      ← c.expiry_number-expires.ensures,
      ← c.expiry_time-at.ensures,
      ← c.id-id.ensures,
      ← c.is_unordered-unordered.ensures,
    )
