-- A line that is longer than any request is answered as too long.
use Rattle.std.proofs.Common.{◌≡◌, ℕ, ◌<◌, Bool, true, cond, List, length, Result, Err, refl}
use Rattle.std.proofs.lemmas.Bool.{lt-ltb}
use Rattle.request_text.specs.Request.{Request, BadRequest, too_long}
use Rattle.request_text.specs.Reading.{longest, request_of}

by_test : (b : Bool) (r : Result Request BadRequest) → b ≡ true → cond b (Err too_long) r ≡ Err too_long
by_test b r e = rw e refl

pub long_line : (line : List ℕ) → longest < length line → request_of line ≡ Err too_long
long_line line h = by_test _ _ (lt-ltb longest (length line) h)
