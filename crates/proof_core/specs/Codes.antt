-- Codes of proofs, by which proofs about them tell them apart.
use Rattle.std.specs.Prelude.{◌≡◌, List, refl}
use Rattle.std.specs.Coded.{Coded, coded_ℤ, coded_list}
use Rattle.std.proofs.Common.{ap, arith}
use base.Stored.{Gv, gnil, gnum, gcons}
use Rattle.logic_core.specs.Tree.{Tree}
use Rattle.logic_core.specs.Codes.{coded_tree, tag}
use Rattle.proof_core.specs.Proof.{Step, by_split, by_instantiate, by_skolem, by_replace, by_unfold, by_back, by_differ, by_combine, by_tighten, Proof, proof, End, by_close, by_cases, by_condition, by_past, by_trichotomy, Proofs, no_proofs, one_proof}

abbrev pub coded_trees : Coded (List Tree)
coded_trees = coded_list coded_tree

abbrev pub step_code : Step → Gv
step_code (by_split f) = gcons (gnum 0) (gnum f)
step_code (by_instantiate f ts) = gcons (gnum 1) (gcons (gnum f) (coded_trees.code ts))
step_code (by_skolem f) = gcons (gnum 2) (gnum f)
step_code (by_replace f g t) = gcons (gnum 3) (gcons (gnum f) (gcons (gnum g) (coded_tree.code t)))
step_code (by_unfold f t) = gcons (gnum 4) (gcons (gnum f) (coded_tree.code t))
step_code (by_back f t) = gcons (gnum 5) (gcons (gnum f) (coded_tree.code t))
step_code (by_differ f) = gcons (gnum 6) (gnum f)
step_code (by_combine f p g q) = gcons (gnum 7) (gcons (gnum f) (gcons (coded_ℤ.code p) (gcons (gnum g) (coded_ℤ.code q))))
step_code (by_tighten f) = gcons (gnum 8) (gnum f)

pub step_inj : (x y : Step) → step_code x ≡ step_code y → x ≡ y
step_inj (by_split f) (by_split g) e = cc
step_inj (by_instantiate f ts) (by_instantiate g us) e = cc (coded_trees.inj ts us (cc))
step_inj (by_skolem f) (by_skolem g) e = cc
step_inj (by_replace f g t) (by_replace h k u) e = cc (coded_tree.inj t u (cc))
step_inj (by_unfold f t) (by_unfold g u) e = cc (coded_tree.inj t u (cc))
step_inj (by_back f t) (by_back g u) e = cc (coded_tree.inj t u (cc))
step_inj (by_differ f) (by_differ g) e = cc
step_inj (by_combine f p g q) (by_combine h r k s) e = cc (coded_ℤ.inj p r (cc), coded_ℤ.inj q s (cc))
step_inj (by_tighten f) (by_tighten g) e = cc
step_inj x y e = let apart : tag (step_code x) ≡ tag (step_code y) = ap tag e in absurd (omega arith)

abbrev pub coded_step : Coded Step
coded_step = record { code = step_code; inj = step_inj }

abbrev pub coded_steps : Coded (List Step)
coded_steps = coded_list coded_step

abbrev mutual
  pub proof_code : Proof → Gv
  proof_code (proof ss e) = gcons (coded_steps.code ss) (end_code e)

  pub end_code : End → Gv
  end_code (by_close f g) = gcons (gnum 0) (gcons (gnum f) (gnum g))
  end_code (by_cases f p ps) = gcons (gnum 1) (gcons (gnum f) (gcons (proof_code p) (proofs_code ps)))
  end_code (by_condition f t p q) = gcons (gnum 2) (gcons (gnum f) (gcons (coded_tree.code t) (gcons (proof_code p) (proof_code q))))
  end_code (by_past t p q r) = gcons (gnum 3) (gcons (coded_tree.code t) (gcons (proof_code p) (gcons (proof_code q) (proof_code r))))
  end_code (by_trichotomy t p q r) = gcons (gnum 4) (gcons (coded_tree.code t) (gcons (proof_code p) (gcons (proof_code q) (proof_code r))))

  pub proofs_code : Proofs → Gv
  proofs_code no_proofs = gnil
  proofs_code (one_proof p ps) = gcons (proof_code p) (proofs_code ps)

mutual
  pub proof_inj : (x y : Proof) → proof_code x ≡ proof_code y → x ≡ y
  proof_inj (proof ss d) (proof us e) h = cc (coded_steps.inj ss us (cc), end_inj d e (cc))

  pub end_inj : (x y : End) → end_code x ≡ end_code y → x ≡ y
  end_inj (by_close f g) (by_close h k) e = cc
  end_inj (by_cases f p ps) (by_cases g q qs) e = cc (proof_inj p q (cc), proofs_inj ps qs (cc))
  end_inj (by_condition f t p q) (by_condition g u r s) e = cc (coded_tree.inj t u (cc), proof_inj p r (cc), proof_inj q s (cc))
  end_inj (by_past t p q r) (by_past u v w x) e = cc (coded_tree.inj t u (cc), proof_inj p v (cc), proof_inj q w (cc), proof_inj r x (cc))
  end_inj (by_trichotomy t p q r) (by_trichotomy u v w x) e = cc (coded_tree.inj t u (cc), proof_inj p v (cc), proof_inj q w (cc), proof_inj r x (cc))
  end_inj x y e = let apart : tag (end_code x) ≡ tag (end_code y) = ap tag e in absurd (omega arith)

  pub proofs_inj : (x y : Proofs) → proofs_code x ≡ proofs_code y → x ≡ y
  proofs_inj no_proofs no_proofs h = refl
  proofs_inj (one_proof a ps) (one_proof b qs) h = cc (proof_inj a b (cc), proofs_inj ps qs (cc))
  proofs_inj no_proofs (one_proof b qs) h = cc
  proofs_inj (one_proof a ps) no_proofs h = cc

abbrev pub coded_proof : Coded Proof
coded_proof = record { code = proof_code; inj = proof_inj }
