-- What is among names that were put in one after another.
use Rattle.std.specs.Prelude.{◌≡◌, refl, ℕ, ◌+◌, ◌≤◌, Bool, true, false, cond, nat_lt, ◌||◌, if◌then◌else◌, List, [], ◌∷◌, ◌++◌, length, bytes_eq, Some, None, position}
use Rattle.std.specs.Borrow.{Bor}
use Rattle.std.specs.List.{list_any, position_or_len}
use Rattle.std.specs.Option.{unwrap_or}
use Rattle.std.proofs.Common.{arith, sym, ap, ◌∙◌}
use Rattle.std.proofs.lemmas.Bool.{ltb-false}
use Rattle.std.proofs.lemmas.List.{length-map}
use Rattle.std.proofs.lemmas.List.Recursion.{is_position_or_len}
use Rattle.std.proofs.lemmas.List.Folds.{list_any-append}
use Rattle.std.proofs.lemmas.List.{map_push}
use Rattle.std.proofs.lemmas.Slice.Eq.{bytes_eq-Decides}
use Rattle.logic_core.proofs.Booleans.{or_false, or_assoc}
use Rattle.indexmap.specs.IndexSet.{insert_key}
use Rattle.bpl_model.specs.Module.{Name}
use Rattle.bpl_model.specs.Names.{names_seen, with_name, with_names, place}

pub any_seen : (t : Name → Bool) (ks : List (Bor Name)) → list_any (λ k. t k.now) ks ≡ list_any t (names_seen ks)
any_seen t [] = refl
any_seen t (k ∷ ks) = λ i. t k.now || any_seen t ks i

-- a key that is put in
pub seen_put : (ks : List (Bor Name)) (v : Bor Name) → names_seen (insert_key (λ a b. bytes_eq a.now b.now) ks v) ≡ with_name (names_seen ks) v.now
seen_put ks v = by (list_any (λ j. bytes_eq v.now j.now) ks) ∙ ap (λ b. cond b (names_seen ks) (names_seen ks ++ v.now ∷ [])) (any_seen (bytes_eq v.now) ks)
  where
    by : (b : Bool) → names_seen (if b then ks else ks ++ v ∷ []) ≡ cond b (names_seen ks) (names_seen ks ++ v.now ∷ [])
    by true = refl
    by false = map_push (λ (n : Bor Name). n.now) ks v

name_among : (ns : List Name) (n k : Name) → list_any (bytes_eq k) (with_name ns n) ≡ (list_any (bytes_eq k) ns || bytes_eq k n)
name_among ns n k = by (list_any (bytes_eq n) ns) refl (bytes_eq k n) refl
  where
    by : (b : Bool) → list_any (bytes_eq n) ns ≡ b → (t : Bool) → bytes_eq k n ≡ t → list_any (bytes_eq k) (cond b ns (ns ++ n ∷ [])) ≡ (list_any (bytes_eq k) ns || t)
    by true e true t = let there : list_any (bytes_eq k) ns ≡ true = ap (λ j. list_any (bytes_eq j) ns) ((bytes_eq-Decides k n).0 t) ∙ e in there ∙ sym (ap (λ b. b || true) there)
    by true e false t = sym (or_false (list_any (bytes_eq k) ns))
    by false e c t = list_any-append (bytes_eq k) ns (n ∷ []) ∙ ap (λ b. list_any (bytes_eq k) ns || b) (or_false (bytes_eq k n) ∙ t)

pub names_among : (ns xs : List Name) (k : Name) → list_any (bytes_eq k) (with_names ns xs) ≡ (list_any (bytes_eq k) ns || list_any (bytes_eq k) xs)
names_among ns [] k = sym (or_false (list_any (bytes_eq k) ns))
names_among ns (x ∷ xs) k =
    names_among (with_name ns x) xs k
    ∙ ap (λ b. b || list_any (bytes_eq k) xs) (name_among ns x k)
    ∙ or_assoc (list_any (bytes_eq k) ns) (bytes_eq k x) (list_any (bytes_eq k) xs)

pub seen_length : (ks : List (Bor Name)) → length (names_seen ks) ≡ length ks
seen_length ks = length-map ks (λ (k : Bor Name). k.now)

place_within : (ns : List Name) (n : Name) → place ns n ≤ length ns
place_within [] n = omega arith
place_within (m ∷ ms) n = by (bytes_eq n m) (place_within ms n)
  where
    by : (b : Bool) → place ms n ≤ length ms → cond b 0 (1 + place ms n) ≤ length (m ∷ ms)
    by true h = omega arith
    by false h = omega (h, arith)

-- where a key stands, behind all of them where it doesn't
pub place_seen : (n : Name) (ks : List (Bor Name)) → unwrap_or (position (λ k. bytes_eq n k.now) ks) (length ks) ≡ place (names_seen ks) n
place_seen n ks =
    let same : place (names_seen ks) n ≡ position_or_len (λ (k : Bor Name). bytes_eq n k.now) ks = is_position_or_len (λ (js : List (Bor Name)). place (names_seen js) n) (λ k. bytes_eq n k.now) refl (λ j js. refl) ks in
    let inside : position_or_len (λ (k : Bor Name). bytes_eq n k.now) ks ≤ length ks = omega (arith, place_within (names_seen ks) n, seen_length ks, same) in
    either (position_or_len (λ (k : Bor Name). bytes_eq n k.now) ks) (length ks) inside ∙ sym same
  where
    either : (x l : ℕ) → x ≤ l → unwrap_or (cond (nat_lt x l) (Some x) None) l ≡ x
    either x l h = by (nat_lt x l) refl
      where
        by : (b : Bool) → nat_lt x l ≡ b → unwrap_or (cond b (Some x) None) l ≡ x
        by true e = refl
        by false e = let g = ltb-false x l e in omega (g, h, arith)
