-- That the number that C is told of a reading, or of a joining, is the one it replied. Assumes nothing.
use mathlib.Core.Path.{◌≡◌, refl, ◌∙◌}
use Rattle.reading.specs.Replies.{ReadingReply, taken, refused_by, refused_at, refused_stop, refused_stops, reading_number}
use Rattle.board.specs.declared.answers.ReadAnswer.{ReadAnswer}
use Rattle.board.specs.Told.{SaysOfRead, read_answer_of}

-- the number that C is told is that of the reply
number_of : (m : ReadingReply) → (read_answer_of m).number ≡ reading_number m
number_of taken = refl
number_of (refused_by n) = refl
number_of (refused_at n o) = refl
number_of (refused_stop n s) = refl
number_of (refused_stops n s t) = refl

pub number_told : (m : ReadingReply) (r : ReadAnswer) → SaysOfRead r (read_answer_of m) → r.number ≡ reading_number m
number_told m r s = s.number_is ∙ number_of m
