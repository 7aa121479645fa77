-- Tokens that don't merge with their neighbours, put together.
use Rattle.std.specs.Prelude.{◌≡◌, ℕ, true, false, ◌||◌, codes, List, [], ◌∷◌, ◌++◌, Some}
use Rattle.std.proofs.Common.{refl, sym, subst, append_assoc}
use Rattle.bpl_lex.specs.Token.{id, sign}
use Rattle.bpl_lex.specs.Shape.{kind_of}
use Rattle.bpl_lex.proofs.Shapes.{is_name_byte}
use Rattle.canonical_text.specs.Glyph.{Glyph, prefix}
use Rattle.canonical_text.specs.Lexed.{IsAlone, space, feed, IsTight, Joins, AreApart}
use Rattle.canonical_text.proofs.Alone.{IsLoose, no_number_kind, identifier_alone, name_identifier}
use Rattle.canonical_text.proofs.Signs.{IsSpaced, IsOpen, IsFirst, bang_space, bang_feed}

-- apart from each other, and from whatever follows
abbrev pub Rest : List Glyph → Type 0
Rest gs = (hs : List Glyph) → AreApart hs → AreApart (gs ++ hs)

-- and they begin with a token that a space stands before
abbrev pub Begins : List Glyph → Type 0
Begins [] = ⊥
Begins (g ∷ gs) = IsFirst g

pub record Good (gs : List Glyph) : Type 0 where
  pub rest : Rest gs
  pub begins : Begins gs

pub rest_nil : Rest []
rest_nil = λ hs a. a

pub rest_append : (gs hs : List Glyph) → Rest gs → Rest hs → Rest (gs ++ hs)
rest_append gs hs r q = λ us a. subst AreApart (sym (append_assoc gs hs us)) (r (hs ++ us) (q us a))

begins_append : (gs hs : List Glyph) → Begins gs → Begins (gs ++ hs)
begins_append [] hs b = absurd b
begins_append (g ∷ gs) hs b = b

pub good_append : (gs hs : List Glyph) → Good gs → Rest hs → Good (gs ++ hs)
good_append gs hs g q = record { rest = rest_append gs hs g.rest q; begins = begins_append gs hs g.begins }

loose_join : (g : Glyph) → IsLoose g → (hs : List Glyph) → AreApart hs → Joins g hs
loose_join g l [] a = tt
loose_join g l (h ∷ hs) a = λ e after. joined h a.2 (tight_of h e) after
  where
    tight_of : (h : Glyph) → (g.glued || h.tight) ≡ true → h.tight ≡ true
    tight_of h e = rw l.unglued at e

    joined : (h : Glyph) → IsTight h → h.tight ≡ true → (after : List ℕ) → IsAlone g.text (h.text ++ after)
    joined h t e after =
        let c = t e in
        subst (λ w. IsAlone g.text (w ++ after)) (sym c.2) (l.alone c.0 c.1 after)

pub rest_loose : (g : Glyph) (gs : List Glyph) → IsLoose g → Rest gs → Rest (g ∷ gs)
rest_loose g gs l r = λ hs a.
    let b = r hs a in
    (λ after. l.alone 32 space after, λ after. l.alone 10 feed after, l.tight, loose_join g l (gs ++ hs) b, b, l.narrow)

pub good_loose : (g : Glyph) (gs : List Glyph) → IsLoose g → IsFirst g → Rest gs → Good (g ∷ gs)
good_loose g gs l f r = record { rest = rest_loose g gs l r; begins = f }

spaced_join : (g : Glyph) → IsSpaced g → (gs : List Glyph) → Begins gs → Joins g gs
spaced_join g s [] b = absurd b
spaced_join g s (h ∷ hs) b = λ e after. absurd (never h b.spaced e)
  where
    never : (h : Glyph) → h.tight ≡ false → (g.glued || h.tight) ≡ true → ⊥
    never h t e = cc (rw (s.unglued, t) at e)

pub rest_spaced : (g : Glyph) (gs : List Glyph) → IsSpaced g → Good gs → Rest (g ∷ gs)
rest_spaced g gs s r = λ hs a.
    let b = r.rest hs a in
    (s.space, s.feed, s.tight, spaced_join g s (gs ++ hs) (begins_append gs hs r.begins), b, s.narrow)

open_join : (g : Glyph) → IsOpen g → (hs : List Glyph) → Joins g hs
open_join g o [] = tt
open_join g o (h ∷ hs) = λ e after. o.alone (h.text ++ after)

pub rest_open : (g : Glyph) (gs : List Glyph) → IsOpen g → Rest gs → Rest (g ∷ gs)
rest_open g gs o r = λ hs a.
    let b = r hs a in
    (λ after. o.alone (32 ∷ after), λ after. o.alone (10 ∷ after), o.tight, open_join g o (gs ++ hs), b, o.narrow)

pub good_open : (g : Glyph) (gs : List Glyph) → IsOpen g → IsFirst g → Rest gs → Good (g ∷ gs)
good_open g gs o f r = record { rest = rest_open g gs o r; begins = f }

bang_join : (gs : List Glyph) → Begins gs → Joins (prefix (codes "!")) gs
bang_join [] b = absurd b
bang_join (h ∷ hs) b = λ e after. b.negated after

-- after `!`
pub rest_not : (gs : List Glyph) → Good gs → Rest (prefix (codes "!") ∷ gs)
rest_not gs r = λ hs a.
    let b = r.rest hs a in
    (bang_space, bang_feed, (λ e. absurd (cc)), bang_join (gs ++ hs) (begins_append gs hs r.begins), b, no_number_kind (prefix (codes "!")) sign refl (λ e. cc))

-- a name with no space behind it, and a sign
pub rest_called : (w : List ℕ) (h : Glyph) (c : ℕ) (gs : List Glyph) → kind_of w ≡ Some id → h.text ≡ c ∷ [] → is_name_byte c ≡ false → Rest (h ∷ gs) → Rest (prefix w ∷ h ∷ gs)
rest_called w h c gs k e n r = λ hs a.
    let b = r hs a in (
      λ after. identifier_alone w id 32 after (name_identifier w k) k refl,
      λ after. identifier_alone w id 10 after (name_identifier w k) k refl,
      (λ q. absurd (cc)),
      (λ q after. subst (λ x. IsAlone w (x ++ after)) (sym e) (identifier_alone w id c after (name_identifier w k) k n)),
      b,
      no_number_kind (prefix w) id k (λ q. cc),
    )
