-- Tokens written one after another give the line.
use Rattle.std.specs.Prelude.{◌≡◌, refl, ℕ, Bool, true, ◌||◌, List, [], ◌∷◌, ◌++◌, codes, replicate, cond, Option, Some, None, option_map}
use Rattle.std.proofs.Common.{ap, sym, subst, rules, ◌∙◌}
use Rattle.std.proofs.lemmas.List.{append-nil}
use mathlib.Core.List.{append_assoc}
use Rattle.canonical_text.specs.Glyph.{Glyph, spaced, line}
use Rattle.canonical_text.specs.Written.{Written, add, written, begun, Adds}

pub written_append : (w : Written) (gs hs : List Glyph) → written w (gs ++ hs) ≡ written (written w gs) hs
written_append w [] hs = refl
written_append w (g ∷ gs) hs = written_append (add w g) gs hs

-- no tokens
pub adds_none : (line : Option Written) → Adds line [] line
adds_none None = record { stands = tt }
adds_none (Some w) = record { stands = refl }

-- tokens behind tokens
pub adds : {a b c : Option Written} {gs hs : List Glyph} → Adds a gs b → Adds b hs c → Adds a (gs ++ hs) c
adds {c = None} h k = record { stands = tt }
adds {b = None} {c = Some w} h k = record { stands = cc (k.stands) }
adds {a = None} {b = Some v} {c = Some w} h k = record { stands = cc (h.stands) }
adds {a = Some u} {b = Some v} {c = Some w} {gs = gs} {hs = hs} h k = record { stands = cc (h.stands, k.stands, written_append u gs hs) }

-- Two to eight writes one after another. `grind` doesn't repeat a lemma, so each number has its own.
pub adds_two : (a b c : Option Written) (gs hs all : List Glyph) → Adds a gs b → Adds b hs c → gs ++ hs ≡ all → Adds a all c
adds_two a b c gs hs all p0 p1 same = subst (λ x. Adds a x c) same (adds p0 p1)

pub adds_three : (a b c d : Option Written) (gs hs is all : List Glyph) → Adds a gs b → Adds b hs c → Adds c is d → gs ++ (hs ++ is) ≡ all → Adds a all d
adds_three a b c d gs hs is all p0 p1 p2 same = subst (λ x. Adds a x d) same (adds p0 (adds p1 p2))

pub adds_four : (a b c d e : Option Written) (gs hs is js all : List Glyph) → Adds a gs b → Adds b hs c → Adds c is d → Adds d js e → gs ++ (hs ++ (is ++ js)) ≡ all → Adds a all e
adds_four a b c d e gs hs is js all p0 p1 p2 p3 same = subst (λ x. Adds a x e) same (adds p0 (adds p1 (adds p2 p3)))

pub adds_five : (a b c d e f : Option Written) (gs hs is js ks all : List Glyph) → Adds a gs b → Adds b hs c → Adds c is d → Adds d js e → Adds e ks f → gs ++ (hs ++ (is ++ (js ++ ks))) ≡ all → Adds a all f
adds_five a b c d e f gs hs is js ks all p0 p1 p2 p3 p4 same = subst (λ x. Adds a x f) same (adds p0 (adds p1 (adds p2 (adds p3 p4))))

pub adds_six : (a b c d e f g : Option Written) (gs hs is js ks ls all : List Glyph) → Adds a gs b → Adds b hs c → Adds c is d → Adds d js e → Adds e ks f → Adds f ls g → gs ++ (hs ++ (is ++ (js ++ (ks ++ ls)))) ≡ all → Adds a all g
adds_six a b c d e f g gs hs is js ks ls all p0 p1 p2 p3 p4 p5 same = subst (λ x. Adds a x g) same (adds p0 (adds p1 (adds p2 (adds p3 (adds p4 p5)))))

pub adds_seven : (a b c d e f g h : Option Written) (gs hs is js ks ls ms all : List Glyph) → Adds a gs b → Adds b hs c → Adds c is d → Adds d js e → Adds e ks f → Adds f ls g → Adds g ms h → gs ++ (hs ++ (is ++ (js ++ (ks ++ (ls ++ ms))))) ≡ all → Adds a all h
adds_seven a b c d e f g h gs hs is js ks ls ms all p0 p1 p2 p3 p4 p5 p6 same = subst (λ x. Adds a x h) same (adds p0 (adds p1 (adds p2 (adds p3 (adds p4 (adds p5 p6))))))

pub adds_eight : (a b c d e f g h i : Option Written) (gs hs is js ks ls ms ns all : List Glyph) → Adds a gs b → Adds b hs c → Adds c is d → Adds d js e → Adds e ks f → Adds f ls g → Adds g ms h → Adds h ns i → gs ++ (hs ++ (is ++ (js ++ (ks ++ (ls ++ (ms ++ ns)))))) ≡ all → Adds a all i
adds_eight a b c d e f g h i gs hs is js ks ls ms ns all p0 p1 p2 p3 p4 p5 p6 p7 same = subst (λ x. Adds a x i) same (adds p0 (adds p1 (adds p2 (adds p3 (adds p4 (adds p5 (adds p6 p7)))))))

-- Where some tokens are still to come: with them all that was to be written stands.
pub record Leaves (before : Option Written) (all : List Glyph) (line : Option Written) (rest : List Glyph) : Type 0 where
  pub so : (end : Option Written) → Adds line rest end → Adds before all end

pub leaves_all : (a : Option Written) (all : List Glyph) → Leaves a all a all
leaves_all a all = record { so = λ e h. h }

pub leaves_one : (a b c : Option Written) (all rest gs more : List Glyph) → Leaves a all b rest → Adds b gs c → gs ++ more ≡ rest → Leaves a all c more
leaves_one a b c all rest gs more l p e = record { so = λ end h. l.so end (subst (λ x. Adds b x end) e (adds p h)) }

pub leaves_two : (a b c d : Option Written) (all rest gs hs more : List Glyph) → Leaves a all b rest → Adds b gs c → Adds c hs d → gs ++ (hs ++ more) ≡ rest → Leaves a all d more
leaves_two a b c d all rest gs hs more l p q e = record { so = λ end h. l.so end (subst (λ x. Adds b x end) e (adds p (adds q h))) }

pub leaves_three : (a b c d f : Option Written) (all rest gs hs is more : List Glyph) → Leaves a all b rest → Adds b gs c → Adds c hs d → Adds d is f → gs ++ (hs ++ (is ++ more)) ≡ rest → Leaves a all f more
leaves_three a b c d f all rest gs hs is more l p q r e = record { so = λ end h. l.so end (subst (λ x. Adds b x end) e (adds p (adds q (adds r h)))) }

pub leaves_none : (a b : Option Written) (all rest : List Glyph) → Leaves a all b rest → rest ≡ [] → Adds a all b
leaves_none a b all rest l e = l.so b (subst (λ x. Adds b x b) (sym e) (adds_none b))

pub ruleset writes = (adds_none, adds_two, adds_three, adds_four, adds_five, adds_six, adds_seven, adds_eight, leaves_all, leaves_one, leaves_two, leaves_three, leaves_none)

-- what the tokens add to the text, the first with the space before it
abbrev rest_of : Bool → List Glyph → List ℕ
rest_of b [] = []
rest_of b (g ∷ gs) = cond (b || g.tight) [] (codes " ") ++ spaced (g ∷ gs)

spaced_rest : (g : Glyph) (gs : List Glyph) → spaced (g ∷ gs) ≡ g.text ++ rest_of g.glued gs
spaced_rest g [] = search (rules, append-nil)
spaced_rest g (h ∷ gs) = refl

written_text : (w : Written) (gs : List Glyph) → (written w gs).text ≡ w.text ++ rest_of w.glued gs
unfolding add
written_text w [] = search (rules, append-nil)
written_text w (g ∷ gs) = search (rules, written_text (add w g) gs, spaced_rest g gs, append_assoc)

start_rest : (gs : List Glyph) → rest_of true gs ≡ spaced gs
start_rest [] = refl
start_rest (g ∷ gs) = refl

pub line_written : (n : ℕ) (gs : List Glyph) → line n gs ≡ (written (begun n) gs).text
unfolding line
line_written n gs = sym (written_text (begun n) gs ∙ ap (λ t. replicate n 32 ++ t) (start_rest gs))
