-- What a line is answered, by what is known of the session before it.
use Rattle.std.proofs.Common.{◌≡◌, ◌∙◌, ◌↔◌, ◌<◌, ◌^◌, ◌+◌, ℕ, Bool, IsTrue, List, sym, subst, arith}
use Rattle.request_text.specs.Request.{Reply, ended}
use Rattle.request_text.specs.Replies.{reply_text}
use Rattle.edit_session.specs.Answers.{Asked}
use Rattle.edit_session.specs.Kept.{Session, HasRoom, IsLater, IsAnswered}
use Rattle.edit_session.specs.Replying.{IsLine, RepliesAs, FailsAs, HasAnswered}

is_line : (old s t : Session) (asked : Asked) (x : Reply) → s ≡ old → IsAnswered s asked x t → IsLater s t → IsLine old asked t x
is_line old s t asked x same answered later = subst (λ o. IsLine o asked t x) same (record { answered = answered; turns = later.turns; workers = later.workers })

pub replies_as : (old s t : Session) (asked : Asked) (x : Reply) (text : List ℕ) (is_last : Bool) → s ≡ old
    → IsAnswered s asked x t → IsLater s t → text ≡ reply_text x → IsTrue is_last ↔ (x ≡ ended) → RepliesAs old asked t text is_last
replies_as old s t asked x text is_last same answered later written last = record { reply = x; line = is_line old s t asked x same answered later; written = written; last = last }

pub fails_as : (old s t : Session) (asked : Asked) (x : Reply) → s ≡ old → IsAnswered s asked x t → IsLater s t → FailsAs old asked t
fails_as old s t asked x same answered later = record { reply = x; line = is_line old s t asked x same answered later }

-- after fewer than 2 ^ 32 lines there is room for one more
pub has_room : (old s : Session) (n : ℕ) → s ≡ old → n < 2 ^ 32 → HasAnswered old n → HasRoom s
has_room old s n same few answered = subst HasRoom (sym same) (record { version = omega (arith, few, answered.0); claims = λ alone. omega (arith, few, answered.1 alone) })

-- one more was answered
pub answered_more : (old s t : Session) (n : ℕ) → s ≡ old → IsLater s t → HasAnswered old n → HasAnswered t (n + 1)
answered_more old s t n same later answered =
    let before : HasAnswered s n = subst (λ o. HasAnswered o n) (sym same) answered in (
      omega (arith, later.version, before.0),
      λ alone. let so = sym later.workers ∙ alone in omega (arith, later.claims so, before.1 so),
    )
