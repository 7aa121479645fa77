-- One line more, and that where the shorter list ends no line is left.
use Rattle.std.proofs.Common.{◌≡◌, ◌∙◌, ℕ, suc, ◌+◌, ◌<◌, ◌≤◌, arith, get_or, Vec, Global, List, [], ◌∷◌, ◌++◌, length, map, drop, min, refl, sym, ap}
use Rattle.std.proofs.Math.Seq.{drop-cons}
use Rattle.std.proofs.lemmas.List.{length-drop, append_assoc}
use Rattle.bpl_model.specs.Module.{Module}
use Rattle.bpl_scopes.specs.Scopes.{Table}
use Rattle.stmt_checksum.specs.declared.parts.Part.{Part}
use Rattle.stmt_checksum.specs.declared.chain.Link.{Link}
use Rattle.stmt_checksum.specs.PartsView.{part_seen, parts_seen}
use Rattle.stmt_checksum.specs.Chain.{line_of, with_parts, next_sum, links}

pub lines_end : (m : Module) (t : Table) (i : ℕ) (ls : List (Vec ℕ Global)) (ps : List Part) → min (length ls) (length ps) ≤ i → with_parts m t (map (λ l. l.items) (drop i ls)) (parts_seen (drop i ps)) ≡ []
lines_end m t i ls ps h = by (drop i ls) (drop i ps) (let e : min (length (drop i ls)) (length (drop i ps)) ≡ 0 = omega (arith, length-drop i ls, length-drop i ps) in e)
  where
    by : (ks : List (Vec ℕ Global)) (qs : List Part) → min (length ks) (length qs) ≡ 0 → with_parts m t (map (λ l. l.items) ks) (parts_seen qs) ≡ []
    by [] qs e = refl
    by (k ∷ ks) [] e = refl
    by (k ∷ ks) (q ∷ qs) e = absurd (omega (arith, e))

pub links_next : (m : Module) (t : Table) (found found' : List Link) (s s' : List ℕ) (i : ℕ) (ls : List (Vec ℕ Global)) (ps : List Part) (l : Vec ℕ Global) (p : Part)
    → drop i ls ≡ l ∷ drop (i + 1) ls → drop i ps ≡ p ∷ drop (i + 1) ps → s' ≡ next_sum m s (line_of m t l.items (part_seen p)) → found' ≡ found ++ record { place = p.place; sum = s' } ∷ []
    → found' ++ links m s' (with_parts m t (map (λ v. v.items) (drop (i + 1) ls)) (parts_seen (drop (i + 1) ps))) ≡ found ++ links m s (with_parts m t (map (λ v. v.items) (drop i ls)) (parts_seen (drop i ps)))
links_next m t found found' s s' i ls ps l p a b e f =
    let rest = with_parts m t (map (λ v. v.items) (drop (i + 1) ls)) (parts_seen (drop (i + 1) ps)) in
    ap (λ ks. ks ++ links m s' rest) f
    ∙ append_assoc found (record { place = p.place; sum = s' } ∷ []) (links m s' rest)
    ∙ (λ j. found ++ record { place = p.place; sum = e j } ∷ links m (e j) rest)
    ∙ sym (λ j. found ++ links m s (with_parts m t (map (λ v. v.items) (a j)) (parts_seen (b j))))

pub dropped : {A : Type 0} (xs : List A) (i : ℕ) (x : A) → i < length xs → get_or xs i x ≡ x → drop i xs ≡ x ∷ drop (i + 1) xs
dropped xs i x h e =
    let more : suc i ≡ i + 1 = omega arith in
    drop-cons xs i x h ∙ (λ j. e j ∷ drop (more j) xs)
