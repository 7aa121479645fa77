-- What words are read as, on examples.
use Rattle.std.specs.Prelude.{◌≡◌, refl, ℕ, true, [], ◌∷◌, Option, Some, None, codes}
use Rattle.clap.proofs.OnLiterals.{clap_on_literals}
use Rattle.clap.specs.Words.{is_simple, is_simple_and_free}
use Rattle.command_words.specs.CommandLine.{the_command}
use Rattle.command_words.specs.Reading.{reading}
use Rattle.command_words.specs.declared.command.Mode.{Mode}
use Rattle.command_words.specs.declared.command.Mode.TheVariants.{Check, Serve, Recheck, Gen, Smoke}
use Rattle.command_words.specs.declared.command.Command.{Command}

-- so the contracts of a parse speak of this command
simple : is_simple the_command ≡ true
unfolding clap_on_literals
simple = refl

simple_and_free : is_simple_and_free the_command ≡ true
unfolding clap_on_literals
simple_and_free = refl

abbrev read : Mode → ℕ → ℕ → ℕ → ℕ → Option Command
read m t w s n = Some (record { mode = m; turns = t; workers = w; seed = s; size = n })

words_0 : reading ([]) ≡ None
unfolding clap_on_literals
words_0 = refl

words_1 : reading (codes "check" ∷ []) ≡ read Check 20000 0 0 0
unfolding clap_on_literals
words_1 = refl

words_2 : reading (codes "check" ∷ codes "--turns" ∷ codes "7" ∷ []) ≡ read Check 7 0 0 0
unfolding clap_on_literals
words_2 = refl

words_3 : reading (codes "check" ∷ codes "--turns=7" ∷ []) ≡ read Check 7 0 0 0
unfolding clap_on_literals
words_3 = refl

words_4 : reading (codes "--turns" ∷ codes "7" ∷ codes "check" ∷ []) ≡ read Check 7 0 0 0
unfolding clap_on_literals
words_4 = refl

words_5 : reading (codes "--turns=7" ∷ codes "check" ∷ []) ≡ read Check 7 0 0 0
unfolding clap_on_literals
words_5 = refl

words_6 : reading (codes "check" ∷ codes "--turns" ∷ codes "0" ∷ []) ≡ None
unfolding clap_on_literals
words_6 = refl

words_7 : reading (codes "check" ∷ codes "--turns" ∷ codes "1" ∷ []) ≡ read Check 1 0 0 0
unfolding clap_on_literals
words_7 = refl

words_8 : reading (codes "check" ∷ codes "--turns" ∷ codes "1000000" ∷ []) ≡ read Check 1000000 0 0 0
unfolding clap_on_literals
words_8 = refl

words_9 : reading (codes "check" ∷ codes "--turns" ∷ codes "1000001" ∷ []) ≡ None
unfolding clap_on_literals
words_9 = refl

words_10 : reading (codes "check" ∷ codes "--turns" ∷ codes "0000000007" ∷ []) ≡ read Check 7 0 0 0
unfolding clap_on_literals
words_10 = refl

words_11 : reading (codes "check" ∷ codes "--turns" ∷ codes "00000000007" ∷ []) ≡ None
unfolding clap_on_literals
words_11 = refl

words_12 : reading (codes "check" ∷ codes "--turns" ∷ codes "0000000000" ∷ []) ≡ None
unfolding clap_on_literals
words_12 = refl

words_13 : reading (codes "check" ∷ codes "--turns" ∷ codes "+7" ∷ []) ≡ None
unfolding clap_on_literals
words_13 = refl

words_14 : reading (codes "check" ∷ codes "--turns" ∷ codes "-7" ∷ []) ≡ None
unfolding clap_on_literals
words_14 = refl

words_15 : reading (codes "check" ∷ codes "--turns=-7" ∷ []) ≡ None
unfolding clap_on_literals
words_15 = refl

words_16 : reading (codes "check" ∷ codes "--turns=" ∷ []) ≡ None
unfolding clap_on_literals
words_16 = refl

words_17 : reading (codes "check" ∷ codes "--turns" ∷ codes "" ∷ []) ≡ None
unfolding clap_on_literals
words_17 = refl

words_18 : reading (codes "check" ∷ codes "--turns" ∷ []) ≡ None
unfolding clap_on_literals
words_18 = refl

words_19 : reading (codes "check" ∷ codes "--turns" ∷ codes "7" ∷ codes "--turns" ∷ codes "7" ∷ []) ≡ None
unfolding clap_on_literals
words_19 = refl

words_20 : reading (codes "check" ∷ codes "--turns=7" ∷ codes "--turns" ∷ codes "8" ∷ []) ≡ None
unfolding clap_on_literals
words_20 = refl

words_21 : reading (codes "check" ∷ codes "--workers" ∷ codes "1" ∷ []) ≡ None
unfolding clap_on_literals
words_21 = refl

words_22 : reading (codes "check" ∷ codes "--workers" ∷ codes "0" ∷ []) ≡ None
unfolding clap_on_literals
words_22 = refl

words_23 : reading (codes "check" ∷ codes "--seed" ∷ codes "1" ∷ []) ≡ None
unfolding clap_on_literals
words_23 = refl

words_24 : reading (codes "check" ∷ codes "--" ∷ codes "--turns" ∷ codes "7" ∷ []) ≡ None
unfolding clap_on_literals
words_24 = refl

words_25 : reading (codes "check" ∷ codes "--" ∷ []) ≡ read Check 20000 0 0 0
unfolding clap_on_literals
words_25 = refl

words_26 : reading (codes "--" ∷ codes "check" ∷ []) ≡ read Check 20000 0 0 0
unfolding clap_on_literals
words_26 = refl

words_27 : reading (codes "--turns" ∷ codes "7" ∷ codes "--" ∷ codes "check" ∷ []) ≡ read Check 7 0 0 0
unfolding clap_on_literals
words_27 = refl

words_28 : reading (codes "--" ∷ codes "--turns" ∷ []) ≡ None
unfolding clap_on_literals
words_28 = refl

words_29 : reading (codes "--" ∷ codes "--" ∷ []) ≡ None
unfolding clap_on_literals
words_29 = refl

words_30 : reading (codes "check" ∷ codes "check" ∷ []) ≡ None
unfolding clap_on_literals
words_30 = refl

words_31 : reading (codes "check" ∷ codes "serve" ∷ []) ≡ None
unfolding clap_on_literals
words_31 = refl

words_32 : reading (codes "fly" ∷ []) ≡ None
unfolding clap_on_literals
words_32 = refl

words_33 : reading (codes "" ∷ []) ≡ None
unfolding clap_on_literals
words_33 = refl

words_34 : reading (codes "Check" ∷ []) ≡ None
unfolding clap_on_literals
words_34 = refl

words_35 : reading (codes "check" ∷ codes "-x" ∷ []) ≡ None
unfolding clap_on_literals
words_35 = refl

words_36 : reading (codes "check" ∷ codes "-" ∷ []) ≡ None
unfolding clap_on_literals
words_36 = refl

words_37 : reading (codes "-" ∷ []) ≡ None
unfolding clap_on_literals
words_37 = refl

words_38 : reading (codes "-t" ∷ codes "7" ∷ codes "check" ∷ []) ≡ None
unfolding clap_on_literals
words_38 = refl

words_39 : reading (codes "--help" ∷ []) ≡ None
unfolding clap_on_literals
words_39 = refl

words_40 : reading (codes "check" ∷ codes "--help" ∷ []) ≡ None
unfolding clap_on_literals
words_40 = refl

words_41 : reading (codes "-h" ∷ []) ≡ None
unfolding clap_on_literals
words_41 = refl

words_42 : reading (codes "--version" ∷ []) ≡ None
unfolding clap_on_literals
words_42 = refl

words_43 : reading (codes "-V" ∷ []) ≡ None
unfolding clap_on_literals
words_43 = refl

words_44 : reading (codes "help" ∷ []) ≡ None
unfolding clap_on_literals
words_44 = refl

words_45 : reading (codes "help" ∷ codes "check" ∷ []) ≡ None
unfolding clap_on_literals
words_45 = refl

words_46 : reading (codes "serve" ∷ []) ≡ read Serve 20000 0 0 0
unfolding clap_on_literals
words_46 = refl

words_47 : reading (codes "serve" ∷ codes "--workers" ∷ codes "64" ∷ []) ≡ read Serve 20000 64 0 0
unfolding clap_on_literals
words_47 = refl

words_48 : reading (codes "serve" ∷ codes "--workers" ∷ codes "65" ∷ []) ≡ None
unfolding clap_on_literals
words_48 = refl

words_49 : reading (codes "serve" ∷ codes "--workers=4" ∷ codes "--turns=3" ∷ []) ≡ read Serve 3 4 0 0
unfolding clap_on_literals
words_49 = refl

words_50 : reading (codes "serve" ∷ codes "--turns" ∷ codes "3" ∷ codes "--workers" ∷ codes "4" ∷ []) ≡ read Serve 3 4 0 0
unfolding clap_on_literals
words_50 = refl

words_51 : reading (codes "serve" ∷ codes "--size" ∷ codes "1" ∷ []) ≡ None
unfolding clap_on_literals
words_51 = refl

words_52 : reading (codes "serve" ∷ codes "--turns" ∷ codes "12a" ∷ []) ≡ None
unfolding clap_on_literals
words_52 = refl

words_53 : reading (codes "serve" ∷ codes "--turns" ∷ codes "--workers" ∷ codes "3" ∷ []) ≡ None
unfolding clap_on_literals
words_53 = refl

words_54 : reading (codes "serve" ∷ codes "--workers" ∷ codes "3" ∷ codes "--turns" ∷ codes "--" ∷ codes "5" ∷ []) ≡ None
unfolding clap_on_literals
words_54 = refl

words_55 : reading (codes "serve" ∷ codes "--turns" ∷ codes "-" ∷ []) ≡ None
unfolding clap_on_literals
words_55 = refl

words_56 : reading (codes "serve" ∷ codes "--turn" ∷ codes "3" ∷ []) ≡ None
unfolding clap_on_literals
words_56 = refl

words_57 : reading (codes "serve" ∷ codes "--turns=3=4" ∷ []) ≡ None
unfolding clap_on_literals
words_57 = refl

words_58 : reading (codes "serve" ∷ codes "--turns==3" ∷ []) ≡ None
unfolding clap_on_literals
words_58 = refl

words_59 : reading (codes "serve" ∷ codes "--workers" ∷ codes "--" ∷ codes "3" ∷ []) ≡ None
unfolding clap_on_literals
words_59 = refl

words_60 : reading (codes "recheck" ∷ []) ≡ read Recheck 20000 0 0 0
unfolding clap_on_literals
words_60 = refl

words_61 : reading (codes "recheck" ∷ codes "--turns" ∷ codes "7" ∷ []) ≡ None
unfolding clap_on_literals
words_61 = refl

words_62 : reading (codes "recheck" ∷ codes "--workers" ∷ codes "0" ∷ []) ≡ None
unfolding clap_on_literals
words_62 = refl

words_63 : reading (codes "gen" ∷ []) ≡ None
unfolding clap_on_literals
words_63 = refl

words_64 : reading (codes "gen" ∷ codes "--seed" ∷ codes "1" ∷ []) ≡ None
unfolding clap_on_literals
words_64 = refl

words_65 : reading (codes "gen" ∷ codes "--size" ∷ codes "1" ∷ []) ≡ None
unfolding clap_on_literals
words_65 = refl

words_66 : reading (codes "gen" ∷ codes "--seed" ∷ codes "1" ∷ codes "--size" ∷ codes "1" ∷ []) ≡ read Gen 20000 0 1 1
unfolding clap_on_literals
words_66 = refl

words_67 : reading (codes "gen" ∷ codes "--seed=0" ∷ codes "--size=0" ∷ []) ≡ read Gen 20000 0 0 0
unfolding clap_on_literals
words_67 = refl

words_68 : reading (codes "gen" ∷ codes "--size" ∷ codes "5000" ∷ codes "--seed" ∷ codes "2147483647" ∷ []) ≡ read Gen 20000 0 2147483647 5000
unfolding clap_on_literals
words_68 = refl

words_69 : reading (codes "gen" ∷ codes "--size" ∷ codes "5001" ∷ codes "--seed" ∷ codes "1" ∷ []) ≡ None
unfolding clap_on_literals
words_69 = refl

words_70 : reading (codes "gen" ∷ codes "--size" ∷ codes "1" ∷ codes "--seed" ∷ codes "2147483648" ∷ []) ≡ None
unfolding clap_on_literals
words_70 = refl

words_71 : reading (codes "gen" ∷ codes "--size" ∷ codes "1" ∷ codes "--seed" ∷ codes "9999999999" ∷ []) ≡ None
unfolding clap_on_literals
words_71 = refl

words_72 : reading (codes "gen" ∷ codes "--seed" ∷ codes "1" ∷ codes "--size" ∷ codes "1" ∷ codes "--workers" ∷ codes "2" ∷ codes "--turns" ∷ codes "9" ∷ []) ≡ read Gen 9 2 1 1
unfolding clap_on_literals
words_72 = refl

words_73 : reading (codes "gen" ∷ codes "--seed" ∷ codes "1" ∷ codes "--size" ∷ codes "1" ∷ codes "--seed" ∷ codes "1" ∷ []) ≡ None
unfolding clap_on_literals
words_73 = refl

words_74 : reading (codes "--seed" ∷ codes "1" ∷ codes "gen" ∷ codes "--size" ∷ codes "1" ∷ []) ≡ read Gen 20000 0 1 1
unfolding clap_on_literals
words_74 = refl

words_75 : reading (codes "--seed" ∷ codes "1" ∷ codes "--size" ∷ codes "1" ∷ codes "--" ∷ codes "gen" ∷ []) ≡ read Gen 20000 0 1 1
unfolding clap_on_literals
words_75 = refl

words_76 : reading (codes "smoke" ∷ []) ≡ read Smoke 20000 0 0 0
unfolding clap_on_literals
words_76 = refl

words_77 : reading (codes "smoke" ∷ codes "--turns" ∷ codes "4" ∷ []) ≡ read Smoke 4 0 0 0
unfolding clap_on_literals
words_77 = refl

words_78 : reading (codes "smoke" ∷ codes "--workers" ∷ codes "0" ∷ []) ≡ None
unfolding clap_on_literals
words_78 = refl

words_79 : reading (codes "smoke" ∷ codes "--seed" ∷ codes "1" ∷ codes "--size" ∷ codes "1" ∷ []) ≡ None
unfolding clap_on_literals
words_79 = refl

words_80 : reading (codes "check" ∷ codes "--TURNS" ∷ codes "7" ∷ []) ≡ None
unfolding clap_on_literals
words_80 = refl

words_81 : reading (codes "check" ∷ codes "--turns" ∷ codes "7" ∷ codes "8" ∷ []) ≡ None
unfolding clap_on_literals
words_81 = refl

words_82 : reading (codes "check" ∷ codes "=" ∷ []) ≡ None
unfolding clap_on_literals
words_82 = refl

words_83 : reading (codes "check" ∷ codes "--=7" ∷ []) ≡ None
unfolding clap_on_literals
words_83 = refl

words_84 : reading (codes "check" ∷ codes "--turns" ∷ codes "--" ∷ []) ≡ None
unfolding clap_on_literals
words_84 = refl

words_85 : reading (codes "check" ∷ codes "---turns" ∷ codes "7" ∷ []) ≡ None
unfolding clap_on_literals
words_85 = refl
