-- Of each mode, what it answers: a text, lines, or nothing; and which commands have workers.
use Rattle.std.proofs.Common.{◌≡◌, ◌≢◌, ◌∙◌, ℕ, nat_eq, Bool, true, false, refl, sym, ap}
use Rattle.std.specs.Prelude.{not, ◌&&◌}
use Rattle.std.proofs.lemmas.Bool.{eqb-true}
use Rattle.command_words.specs.declared.command.Command.{Command}
use Rattle.command_words.specs.declared.command.Mode.{Mode}
use Rattle.command_words.specs.declared.command.Mode.TheVariants.{Check, Serve, Recheck, Gen, Smoke}
use Rattle.text_answers.specs.Modes.{answers_text}
use Rattle.edit_server.specs.Modes.{is_shared}

-- but for gen and serve, a mode answers a text
pub answers_unless : (mode : Mode) → mode ≢ Gen → mode ≢ Serve → answers_text mode ≡ true
answers_unless Check gen serve = refl
answers_unless Recheck gen serve = refl
answers_unless Serve gen serve = absurd (serve refl)
answers_unless Gen gen serve = absurd (gen refl)
answers_unless Smoke gen serve = refl

-- what answers no text and isn't gen answers lines
pub serves_unless : (mode : Mode) → answers_text mode ≡ false → mode ≢ Gen → mode ≡ Serve
serves_unless Check is gen = absurd (cc)
serves_unless Recheck is gen = absurd (cc)
serves_unless Serve is gen = refl
serves_unless Gen is gen = absurd (gen refl)
serves_unless Smoke is gen = absurd (cc)

pub serve_is_not_gen : (mode : Mode) → mode ≡ Serve → mode ≢ Gen
serve_is_not_gen Check is gen = absurd (cc)
serve_is_not_gen Recheck is gen = absurd (cc)
serve_is_not_gen Serve is gen = absurd (cc)
serve_is_not_gen Gen is gen = absurd (cc)
serve_is_not_gen Smoke is gen = absurd (cc)

pub answers_none_gen : (mode : Mode) → mode ≡ Gen → answers_text mode ≡ false
answers_none_gen Check is = absurd (cc)
answers_none_gen Recheck is = absurd (cc)
answers_none_gen Serve is = absurd (cc)
answers_none_gen Gen is = refl
answers_none_gen Smoke is = absurd (cc)

pub answers_none_serve : (mode : Mode) → mode ≡ Serve → answers_text mode ≡ false
answers_none_serve Check is = absurd (cc)
answers_none_serve Recheck is = absurd (cc)
answers_none_serve Serve is = refl
answers_none_serve Gen is = absurd (cc)
answers_none_serve Smoke is = absurd (cc)

-- ---- workers

by_zero : (z : Bool) (w : ℕ) → nat_eq w 0 ≡ z → not z ≡ false → w ≡ 0
by_zero true w is e = eqb-true w 0 is
by_zero false w is e = absurd (cc)

alone_by : (a z : Bool) (w : ℕ) → nat_eq w 0 ≡ z → (not a && not z) ≡ false → a ≡ false → w ≡ 0
alone_by true z w is e f = absurd (cc)
alone_by false z w is e f = by_zero z w is e

shared_by : (a z : Bool) (w : ℕ) → nat_eq w 0 ≡ z → (not a && not z) ≡ true → (a ≡ false) × (w ≢ 0)
shared_by true z w is e = absurd (cc)
shared_by false true w is e = absurd (cc)
shared_by false false w is e = (refl, λ none. let never : ◌≡◌ {A = Bool} false true = sym is ∙ ap (λ n. nat_eq n 0) none in absurd (cc))

pub alone_has_none : (c : Command) → is_shared c ≡ false → answers_text c.mode ≡ false → c.workers ≡ 0
alone_has_none c e f = alone_by (answers_text c.mode) (nat_eq c.workers 0) c.workers refl e f

pub shared_has_some : (c : Command) → is_shared c ≡ true → (answers_text c.mode ≡ false) × (c.workers ≢ 0)
shared_has_some c e = shared_by (answers_text c.mode) (nat_eq c.workers 0) c.workers refl e
