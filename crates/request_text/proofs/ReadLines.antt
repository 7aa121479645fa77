-- The request that a line is, from the value that it reads as.
use Rattle.std.proofs.Common.{◌≡◌, Bool, true, false, cond, nat_lt, None, Some, length, Err, IsUtf8, refl, ap, ◌∙◌}
use Rattle.std.specs.Str.{is_utf8}
use Rattle.std.proofs.lemmas.Str.{IsUtf8-from_is_utf8, is_utf8-from_IsUtf8}
use Rattle.serde_json.specs.Data.{Data}
use Rattle.serde_json.specs.Read.{read}
use Rattle.request_text.specs.Request.{Text, bad_json, too_long}
use Rattle.request_text.specs.Reading.{longest, of_read, of_value, request_of}

short_line : (line : Text) → nat_lt longest (length line) ≡ false → request_of line ≡ cond (is_utf8 line) (of_read (read line)) (Err bad_json)
short_line line e = ap (λ b. cond b (Err too_long) (cond (is_utf8 line) (of_read (read line)) (Err bad_json))) e

pub of_its_value : (line : Text) (d : Data) → nat_lt longest (length line) ≡ false → IsUtf8 line → read line ≡ Some d → request_of line ≡ of_value d
of_its_value line d e u r = short_line line e ∙ ap (λ b. cond b (of_read (read line)) (Err bad_json)) (is_utf8-from_IsUtf8 line u) ∙ ap of_read r

pub no_value : (line : Text) → nat_lt longest (length line) ≡ false → (IsUtf8 line → read line ≡ None) → request_of line ≡ Err bad_json
no_value line e h = short_line line e ∙ by (is_utf8 line) (λ t. h (IsUtf8-from_is_utf8 line t))
  where
    by : (b : Bool) → (b ≡ true → read line ≡ None) → cond b (of_read (read line)) (Err bad_json) ≡ Err bad_json
    by true k = ap of_read (k refl)
    by false k = refl
