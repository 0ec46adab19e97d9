-- The number of the layout that a host is compiled for: the words of a receiver and of an out-array, with the meaning of each place, and the arguments
-- of the functions. It moves
-- when one of these does; DSR_LAYOUT of the C header is the same number. Assumes nothing.
use Rattle.std.specs.Prelude.{ℕ}

abbrev pub layout : ℕ
layout = 2
