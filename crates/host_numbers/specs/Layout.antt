-- The number of the layout that a host is compiled for: the words of a queue, of an event, of the event list and of an out-array, with the meaning of each place, and the
-- arguments of the functions. It moves when one of these does, so that a host compiled for another layout can tell; DSQ_LAYOUT of the C header is the same number. Assumes nothing.
use Rattle.std.specs.Prelude.{ℕ}

--   1  an event is two words, kind and number; no function tells this number
--   2  an event is three words: "Kinds 1 and 2 now carry it as a third number" (document 02, 2/13)
--   3  creation takes the rule of a restart behind its other arguments (document 02, 6/13); the options are seven words, and the header's words behind them move
--   4  the totals are eleven words, and the header's words behind them move
--   5  functions return 32 bits where they returned 8
abbrev pub layout : ℕ
layout = 5
