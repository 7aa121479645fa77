-- Tokens that spell a part of the grammar whatever follows, and how deep one of them lies in it.
use Rattle.std.specs.Prelude.{◌≡◌, ℕ, zero, suc, max, ◌<◌, ◌≤◌, nat_lt, Bool, true, false, List, [], ◌∷◌, ◌++◌, IsTrue}
use Rattle.std.proofs.Common.{refl, ap, sym, ◌∙◌, subst, arith, append_assoc, append-nil}
use Rattle.bv_base.specs.declared.place.Place.{Place}
use Rattle.bpl_lex.specs.Token.{Kind}
use Rattle.canonical_text.specs.Glyph.{Glyph}
use Rattle.bpl_grammar.specs.Lexeme.{Lexeme, is_kind, reads}
use Rattle.bpl_grammar.specs.Part.{Part, some, spelled, ◌⨟◌, ◌∣◌, maybe, many, inside, longest, Rule, rule}
use Rattle.bpl_grammar.specs.Grammar.{grammar}
use Rattle.bpl_grammar.specs.Spelling.{Takes, of_kind, of_text, both, left, right, absent, present, no_more, again, deeper, whole, by}
use Rattle.bpl_grammar.specs.Nesting.{Lies, of_kind as lies_kind, of_text as lies_text, first, later, left as lies_left, right as lies_right, present as lies_present, once, again as lies_again, deeper as lies_deeper, whole as lies_whole, by as lies_by}
use Rattle.canonical_text.specs.StatementNestings.{raised}
use Rattle.canonical_text.specs.Spelled.{token, Spelled, done, next}
use Rattle.canonical_text.proofs.Parts.{split}
use Rattle.canonical_text.proofs.Stopping.{lt_true, lt_false}

abbrev On : Part → List Lexeme → Type 0
On p fs = (us : List Lexeme) → Takes p (fs ++ us) us

-- a front of the tokens, the last of which lies that deep or deeper
pub record Reach (p : Part) (fs : List Lexeme) (d : ℕ) : Type 0 where
  pub front : List Lexeme
  pub rest : List Lexeme
  pub number : ℕ
  pub is : front ++ rest ≡ fs
  pub deep : d ≤ number
  pub lies : Lies p front number

pub record Fits (p : Part) (fs : List Lexeme) (d : ℕ) : Type 0 where
  pub takes : On p fs
  pub reach : Reach p fs d

-- the same, where there may be no tokens
pub record Light (p : Part) (fs : List Lexeme) (d : ℕ) : Type 0 where
  pub takes : On p fs
  pub reach : 0 < d → Reach p fs d

-- a deeper reading of the same tokens or of more
moved : {p q : Part} {fs gs : List Lexeme} {d e : ℕ} (f : ℕ → ℕ) (pre : List Lexeme) (post : List Lexeme) → ((front : List Lexeme) (n : ℕ) → Lies p front n → Lies q (pre ++ front) (f n)) → (gs ≡ pre ++ (fs ++ post)) → ((n : ℕ) → d ≤ n → e ≤ f n) → Reach p fs d → Reach q gs e
moved f pre post g h k r = record {
  front = pre ++ r.front;
  rest = r.rest ++ post;
  number = f r.number;
  is = shape pre r.front r.rest post ∙ (ap (λ x. pre ++ (x ++ post)) r.is ∙ sym h);
  deep = k r.number r.deep;
  lies = g r.front r.number r.lies;
}
  where
    shape : (a b c d : List Lexeme) → (a ++ b) ++ (c ++ d) ≡ a ++ ((b ++ c) ++ d)
    shape a b c d = append_assoc a b (c ++ d) ∙ ap (λ x. a ++ x) (sym (append_assoc b c d))

light : {p : Part} {fs : List Lexeme} {d : ℕ} → Fits p fs d → Light p fs d
light f = record { takes = f.takes; reach = λ h. f.reach }

-- one after another

on_seq : (p q : Part) (fa fb : List Lexeme) → On p fa → On q fb → On (p ⨟ q) (fa ++ fb)
on_seq p q fa fb a b = λ us. subst (λ x. Takes (p ⨟ q) x us) (sym (append_assoc fa fb us)) (both (a (fb ++ us)) (b us))

reach_first : (p q : Part) (fa fb : List Lexeme) (d e : ℕ) → e ≤ d → Reach p fa d → Reach (p ⨟ q) (fa ++ fb) e
reach_first p q fa fb d e h r = moved (λ n. n) [] fb (λ front n l. first l) refl (λ n k. omega (arith, h, k)) r

reach_later : (p q : Part) (fa fb : List Lexeme) (d e : ℕ) → On p fa → e ≤ d → Reach q fb d → Reach (p ⨟ q) (fa ++ fb) e
reach_later p q fa fb d e a h r = moved (λ n. n) fa [] (λ front n l. later (a front) l) (ap (λ x. fa ++ x) (sym (append-nil fb))) (λ n k. omega (arith, h, k)) r

side : {A : Type 0} (a b : ℕ) (c : Bool) → nat_lt a b ≡ c → (b ≤ a → A) → (a < b → A) → A
side a b true e f g = g (lt_true a b e)
side a b false e f g = f (lt_false a b e)

seq_first : (p q : Part) (fa fb : List Lexeme) (a b : ℕ) → Fits p fa a → Light q fb b → Fits (p ⨟ q) (fa ++ fb) (max a b)
seq_first p q fa fb a b f g = record {
  takes = on_seq p q fa fb f.takes g.takes;
  reach = side a b (nat_lt a b) refl (λ h. reach_first p q fa fb a (max a b) (omega (arith, h)) f.reach) (λ h. reach_later p q fa fb b (max a b) f.takes (omega (arith, h)) (g.reach (omega (arith, h))));
}

seq_then : (p q : Part) (fa fb : List Lexeme) (a b : ℕ) → Light p fa a → Fits q fb b → Fits (p ⨟ q) (fa ++ fb) (max a b)
seq_then p q fa fb a b f g = record {
  takes = on_seq p q fa fb f.takes g.takes;
  reach = side b a (nat_lt b a) refl (λ h. reach_later p q fa fb b (max a b) f.takes (omega (arith, h)) g.reach) (λ h. reach_first p q fa fb a (max a b) (omega (arith, h)) (f.reach (omega (arith, h))));
}

seq_light : (p q : Part) (fa fb : List Lexeme) (a b : ℕ) → Light p fa a → Light q fb b → Light (p ⨟ q) (fa ++ fb) (max a b)
seq_light p q fa fb a b f g = record {
  takes = on_seq p q fa fb f.takes g.takes;
  reach = λ s. side a b (nat_lt a b) refl (λ h. reach_first p q fa fb a (max a b) (omega (arith, h)) (f.reach (omega (arith, h, s)))) (λ h. reach_later p q fa fb b (max a b) f.takes (omega (arith, h)) (g.reach (omega (arith, h))));
}

again_light : (p : Part) (fa fb : List Lexeme) (a b : ℕ) → Fits p fa a → Light (many p) fb b → Light (many p) (fa ++ fb) (max a b)
again_light p fa fb a b f g = record {
  takes = λ us. subst (λ x. Takes (many p) x us) (sym (append_assoc fa fb us)) (again (f.takes (fb ++ us)) (g.takes us));
  reach = λ s. side a b (nat_lt a b) refl
      (λ h. moved (λ n. n) [] fb (λ front n l. once l) refl (λ n k. omega (arith, h, k)) f.reach)
      (λ h. moved (λ n. n) fa [] (λ front n l. lies_again (f.takes front) l) (ap (λ x. fa ++ x) (sym (append-nil fb))) (λ n k. omega (arith, h, k)) (g.reach (omega (arith, h))));
}

-- over the tokens of the canonical text

abbrev pub Fit : Part → List Glyph → ℕ → Type 0
Fit p gs d = (fs : List Lexeme) → Spelled gs fs [] → Fits p fs d

abbrev pub Slack : Part → List Glyph → ℕ → Type 0
Slack p gs d = (fs : List Lexeme) → Spelled gs fs [] → Light p fs d

record IsCut (gs hs : List Glyph) (fs : List Lexeme) : Type 0 where
  pub first : List Lexeme
  pub second : List Lexeme
  pub is : first ++ second ≡ fs
  pub spelled_first : Spelled gs first []
  pub spelled_second : Spelled hs second []

cut_at : {gs : List Glyph} {fs ms : List Lexeme} → Spelled gs fs ms → (first : List Lexeme) × (first ++ ms ≡ fs) × Spelled gs first []
cut_at done = ([], refl, done)
cut_at (next {g = g} p d) =
    let r = cut_at d in
    (token p g ∷ r.0, (λ i. token p g ∷ r.1 i), next p r.2)

cut : (gs hs : List Glyph) (fs : List Lexeme) → Spelled (gs ++ hs) fs [] → IsCut gs hs fs
cut gs hs fs d =
    let s = split gs hs d in
    let r = cut_at s.first in
    record { first = r.0; second = s.middle; is = r.1; spelled_first = r.2; spelled_second = s.second }

pub slack : (p : Part) (gs : List Glyph) (d : ℕ) → Fit p gs d → Slack p gs d
slack p gs d f = λ fs s. light (f fs s)

pub fit_then : (p q : Part) (gs hs : List Glyph) (a b : ℕ) → Fit p gs a → Slack q hs b → Fit (p ⨟ q) (gs ++ hs) (max a b)
fit_then p q gs hs a b f g = λ fs s.
    let c = cut gs hs fs s in
    subst (λ x. Fits (p ⨟ q) x (max a b)) c.is (seq_first p q c.first c.second a b (f c.first c.spelled_first) (g c.second c.spelled_second))

pub then_fit : (p q : Part) (gs hs : List Glyph) (a b : ℕ) → Slack p gs a → Fit q hs b → Fit (p ⨟ q) (gs ++ hs) (max a b)
then_fit p q gs hs a b f g = λ fs s.
    let c = cut gs hs fs s in
    subst (λ x. Fits (p ⨟ q) x (max a b)) c.is (seq_then p q c.first c.second a b (f c.first c.spelled_first) (g c.second c.spelled_second))

pub slack_then : (p q : Part) (gs hs : List Glyph) (a b : ℕ) → Slack p gs a → Slack q hs b → Slack (p ⨟ q) (gs ++ hs) (max a b)
slack_then p q gs hs a b f g = λ fs s.
    let c = cut gs hs fs s in
    subst (λ x. Light (p ⨟ q) x (max a b)) c.is (seq_light p q c.first c.second a b (f c.first c.spelled_first) (g c.second c.spelled_second))

pub slack_again : (p : Part) (gs hs : List Glyph) (a b : ℕ) → Fit p gs a → Slack (many p) hs b → Slack (many p) (gs ++ hs) (max a b)
slack_again p gs hs a b f g = λ fs s.
    let c = cut gs hs fs s in
    subst (λ x. Light (many p) x (max a b)) c.is (again_light p c.first c.second a b (f c.first c.spelled_first) (g c.second c.spelled_second))

nothing_spelled : {fs : List Lexeme} → Spelled [] fs [] → fs ≡ []
nothing_spelled done = refl

slack_nothing : (p : Part) → ((us : List Lexeme) → Takes p us us) → Slack p [] 0
slack_nothing p t = λ fs s. record { takes = λ us. subst (λ x. Takes p (x ++ us) us) (sym (nothing_spelled s)) (t us); reach = λ h. absurd (omega (arith, h)) }

pub slack_none : (p : Part) → Slack (many p) [] 0
slack_none p = slack_nothing (many p) (λ us. no_more)

pub slack_absent : (p : Part) → Slack (maybe p) [] 0
slack_absent p = slack_nothing (maybe p) (λ us. absent)

pub slack_empty_inside : (p : Part) → Slack p [] 0 → Slack (inside p) [] 0
slack_empty_inside p f = slack_nothing (inside p) (λ us. deeper ((f [] done).takes us))

-- a part alone, where nothing of the next stands there
pub fit_alone : (p q : Part) (gs : List Glyph) (d : ℕ) → Fit p gs d → Slack q [] 0 → Fit (p ⨟ q) gs d
fit_alone p q gs d f g = subst (λ e. Fit (p ⨟ q) gs e) (same d) (subst (λ x. Fit (p ⨟ q) x (max d 0)) (append-nil gs) (fit_then p q gs [] d 0 f g))
  where
    same : (d : ℕ) → max d 0 ≡ d
    same d = omega arith

pub fit_less : (p : Part) (gs : List Glyph) (d e : ℕ) → e ≤ d → Fit p gs d → Fit p gs e
fit_less p gs d e h f = λ fs s.
    let r = f fs s in
    record { takes = r.takes; reach = moved (λ n. n) [] [] (λ front n l. l) (sym (append-nil fs)) (λ n k. omega (arith, h, k)) r.reach }

pub slack_less : (p : Part) (gs : List Glyph) (d e : ℕ) → e ≤ d → Slack p gs d → Slack p gs e
slack_less p gs d e h f = λ fs s.
    let r = f fs s in
    record { takes = r.takes; reach = λ z. moved (λ n. n) [] [] (λ front n l. l) (sym (append-nil fs)) (λ n k. omega (arith, h, k)) (r.reach (omega (arith, h, z))) }

pub fit_left : (p q : Part) (gs : List Glyph) (d : ℕ) → Fit p gs d → Fit (p ∣ q) gs d
fit_left p q gs d f = λ fs s.
    let r = f fs s in
    record { takes = λ us. left (r.takes us); reach = moved (λ n. n) [] [] (λ front n l. lies_left l) (sym (append-nil fs)) (λ n k. k) r.reach }

pub fit_right : (p q : Part) (gs : List Glyph) (d : ℕ) → Fit q gs d → Fit (p ∣ q) gs d
fit_right p q gs d f = λ fs s.
    let r = f fs s in
    record { takes = λ us. right (r.takes us); reach = moved (λ n. n) [] [] (λ front n l. lies_right l) (sym (append-nil fs)) (λ n k. k) r.reach }

pub slack_left : (p q : Part) (gs : List Glyph) (d : ℕ) → Slack p gs d → Slack (p ∣ q) gs d
slack_left p q gs d f = λ fs s.
    let r = f fs s in
    record { takes = λ us. left (r.takes us); reach = λ z. moved (λ n. n) [] [] (λ front n l. lies_left l) (sym (append-nil fs)) (λ n k. k) (r.reach z) }

pub slack_right : (p q : Part) (gs : List Glyph) (d : ℕ) → Slack q gs d → Slack (p ∣ q) gs d
slack_right p q gs d f = λ fs s.
    let r = f fs s in
    record { takes = λ us. right (r.takes us); reach = λ z. moved (λ n. n) [] [] (λ front n l. lies_right l) (sym (append-nil fs)) (λ n k. k) (r.reach z) }

pub fit_present : (p : Part) (gs : List Glyph) (d : ℕ) → Fit p gs d → Fit (maybe p) gs d
fit_present p gs d f = λ fs s.
    let r = f fs s in
    record { takes = λ us. present (r.takes us); reach = moved (λ n. n) [] [] (λ front n l. lies_present l) (sym (append-nil fs)) (λ n k. k) r.reach }

pub fit_inside : (p : Part) (gs : List Glyph) (d : ℕ) → Fit p gs d → Fit (inside p) gs (suc d)
fit_inside p gs d f = λ fs s.
    let r = f fs s in
    record { takes = λ us. deeper (r.takes us); reach = moved suc [] [] (λ front n l. lies_deeper l) (sym (append-nil fs)) (λ n k. omega (arith, k)) r.reach }

pub fit_longest : (p : Part) (gs : List Glyph) (d : ℕ) → Fit p gs d → Fit (longest p) gs d
fit_longest p gs d f = λ fs s.
    let r = f fs s in
    record { takes = λ us. whole (r.takes us); reach = moved (λ n. n) [] [] (λ front n l. lies_whole l) (sym (append-nil fs)) (λ n k. k) r.reach }

pub fit_by : (r : Rule) (gs : List Glyph) (d : ℕ) → Fit (grammar r) gs d → Fit (rule r) gs d
fit_by r gs d f = λ fs s.
    let q = f fs s in
    record { takes = λ us. by (q.takes us); reach = moved (λ n. n) [] [] (λ front n l. lies_by l) (sym (append-nil fs)) (λ n k. k) q.reach }

pub slack_by : (r : Rule) (gs : List Glyph) (d : ℕ) → Slack (grammar r) gs d → Slack (rule r) gs d
slack_by r gs d f = λ fs s.
    let q = f fs s in
    record { takes = λ us. by (q.takes us); reach = λ z. moved (λ n. n) [] [] (λ front n l. lies_by l) (sym (append-nil fs)) (λ n k. k) (q.reach z) }

-- a token

pub fit_text : (g : Glyph) (w : List ℕ) → ((p : Place) → IsTrue (reads w (token p g))) → Fit (spelled w) (g ∷ []) 0
fit_text g w h = λ fs s. one fs s
  where
    one : (fs : List Lexeme) → Spelled (g ∷ []) fs [] → Fits (spelled w) fs 0
    one fs (next p done) = record { takes = λ us. of_text (h p); reach = record { front = token p g ∷ []; rest = []; number = 0; is = refl; deep = omega arith; lies = lies_text (h p) } }

pub fit_kind : (g : Glyph) (k : Kind) → ((p : Place) → IsTrue (is_kind k (token p g))) → Fit (some k) (g ∷ []) 0
fit_kind g k h = λ fs s. one fs s
  where
    one : (fs : List Lexeme) → Spelled (g ∷ []) fs [] → Fits (some k) fs 0
    one fs (next p done) = record { takes = λ us. of_kind (h p); reach = record { front = token p g ∷ []; rest = []; number = 0; is = refl; deep = omega arith; lies = lies_kind (h p) } }

-- the same with the parts left to be found

pub seq : {p q : Part} {gs hs : List Glyph} {a b : ℕ} → Fit p gs a → Slack q hs b → Fit (p ⨟ q) (gs ++ hs) (max a b)
seq {p} {q} {gs} {hs} {a} {b} f g = fit_then p q gs hs a b f g

pub seq_fits : {p q : Part} {gs hs : List Glyph} {a b : ℕ} → Fit p gs a → Fit q hs b → Fit (p ⨟ q) (gs ++ hs) (max a b)
seq_fits {p} {q} {gs} {hs} {a} {b} f g = fit_then p q gs hs a b f (slack q hs b g)

pub seq_slack : {p q : Part} {gs hs : List Glyph} {a b : ℕ} → Slack p gs a → Slack q hs b → Slack (p ⨟ q) (gs ++ hs) (max a b)
seq_slack {p} {q} {gs} {hs} {a} {b} f g = slack_then p q gs hs a b f g

pub slack_fits : {p q : Part} {gs hs : List Glyph} {a b : ℕ} → Slack p gs a → Fit q hs b → Fit (p ⨟ q) (gs ++ hs) (max a b)
slack_fits {p} {q} {gs} {hs} {a} {b} f g = then_fit p q gs hs a b f g

pub once_more : {p : Part} {gs hs : List Glyph} {a b : ℕ} → Fit p gs a → Slack (many p) hs b → Slack (many p) (gs ++ hs) (max a b)
once_more {p} {gs} {hs} {a} {b} f g = slack_again p gs hs a b f g

pub loosely : {p : Part} {gs : List Glyph} {a : ℕ} → Fit p gs a → Slack p gs a
loosely {p} {gs} {a} f = slack p gs a f

-- one item and others
again_fits : (p : Part) (fa fb : List Lexeme) (a b : ℕ) → Fits p fa a → Light (many p) fb b → Fits (many p) (fa ++ fb) (max a b)
again_fits p fa fb a b f g = record {
  takes = λ us. subst (λ x. Takes (many p) x us) (sym (append_assoc fa fb us)) (again (f.takes (fb ++ us)) (g.takes us));
  reach = side a b (nat_lt a b) refl
      (λ h. moved (λ n. n) [] fb (λ front n l. once l) refl (λ n k. omega (arith, h, k)) f.reach)
      (λ h. moved (λ n. n) fa [] (λ front n l. lies_again (f.takes front) l) (ap (λ x. fa ++ x) (sym (append-nil fb))) (λ n k. omega (arith, h, k)) (g.reach (omega (arith, h))));
}

pub many_fits : {p : Part} {gs hs : List Glyph} {a b : ℕ} → Fit p gs a → Slack (many p) hs b → Fit (many p) (gs ++ hs) (max a b)
many_fits {p} {gs} {hs} {a} {b} f g = λ fs s.
    let c = cut gs hs fs s in
    subst (λ x. Fits (many p) x (max a b)) c.is (again_fits p c.first c.second a b (f c.first c.spelled_first) (g c.second c.spelled_second))

-- inside brackets, which may be empty
pub slack_inside : (p : Part) (gs : List Glyph) (d : ℕ) → Slack p gs d → Slack (inside p) gs (raised d)
slack_inside p gs zero f = λ fs s.
    let r = f fs s in
    record { takes = λ us. deeper (r.takes us); reach = λ z. absurd (omega (arith, z)) }
slack_inside p gs (suc d) f = λ fs s.
    let r = f fs s in
    record { takes = λ us. deeper (r.takes us); reach = λ z. moved suc [] [] (λ front n l. lies_deeper l) (sym (append-nil fs)) (λ n k. omega (arith, k)) (r.reach (omega arith)) }
