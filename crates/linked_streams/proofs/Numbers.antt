-- The number and the value of an answer that says yes or no are the model's. Assumes nothing.
use mathlib.Core.Path.{◌≡◌, refl}
use Rattle.queue_model.specs.Types.{Answer, refused, done, number, flag, ids, fragment, nothing_waits, filled}
use Rattle.queue_model.specs.Answers.{answer_number, answer_flag}
use Rattle.queue_streams.specs.Answers.{flag_number, flag_value}
use Rattle.linked_streams.specs.Questions.{flag_of}

pub flag_number_lem : (a : Answer) → flag_number (flag_of a) ≡ answer_number a
flag_number_lem (refused n) = refl
flag_number_lem done = refl
flag_number_lem (number m) = refl
flag_number_lem (flag b) = refl
flag_number_lem (ids l) = refl
flag_number_lem (fragment f) = refl
flag_number_lem nothing_waits = refl
flag_number_lem (filled bs n) = refl

pub flag_value_lem : (a : Answer) → flag_value (flag_of a) ≡ answer_flag a
flag_value_lem (refused n) = refl
flag_value_lem done = refl
flag_value_lem (number m) = refl
flag_value_lem (flag b) = refl
flag_value_lem (ids l) = refl
flag_value_lem (fragment f) = refl
flag_value_lem nothing_waits = refl
flag_value_lem (filled bs n) = refl
