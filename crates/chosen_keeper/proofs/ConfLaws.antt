-- What a file that names a server says of it.
use Rattle.std.proofs.Common.{◌≡◌, ◌∙◌, ℕ, List, [], Bool, true, false, not, Option, None, Some, Ok, refl, ap, codes}
use Rattle.std.specs.Str.{bytes_eq}
use Rattle.chosen_keeper.specs.Conf.{conf_from, either_fault, may_reach, read_conf, reach_fault, set_to, settings, settled, word_fault, keys_fault, keys}
use Rattle.chosen_keeper.specs.declared.conf.Conf.{Conf}
use Rattle.chosen_keeper.specs.declared.conf.ConfFault.{ConfFault}
use Rattle.chosen_keeper.specs.declared.conf.Key.TheVariants.{Standby}

-- a line reads as the server that it names
pub of_a_line : read_conf (codes "postgresql host=127.0.0.1 port=5432 dbname=desk user=ada")
    ≡ Ok (record { host = codes "127.0.0.1"; port = 5_432; database = codes "desk"; user = codes "ada"; passfile = []; standby = true })
of_a_line = refl

reached : (a b : Option ConfFault) (d : Bool) (words : List (List ℕ)) (c : Conf) → settled (either_fault a (either_fault b (reach_fault d))) words ≡ Ok c → d ≡ true
reached (Some f) b d words c is = absurd (cc is)
reached None (Some f) d words c is = absurd (cc is)
reached None None true words c is = refl
reached None None false words c is = absurd (cc is)

-- The host of a server that is named is this machine, or the words say insecure=yes.
pub named_may_be_reached : (words : List (List ℕ)) (c : Conf) → settings words ≡ Ok c → may_reach words ≡ true
named_may_be_reached words c is = reached (word_fault words) (keys_fault keys words) (may_reach words) words c is

named : (o : Option ConfFault) (words : List (List ℕ)) (c : Conf) → settled o words ≡ Ok c → conf_from words ≡ c
named (Some f) words c is = absurd (cc is)
named None words c is = cc is

unless : (b : Bool) → not b ≡ false → b ≡ true
unless true is = refl
unless false is = absurd (cc is)

-- A standby is required unless the words say standby=none.
pub standby_unless_none : (words : List (List ℕ)) (c : Conf) → settings words ≡ Ok c → c.standby ≡ false
    → bytes_eq (set_to Standby words) (codes "none") ≡ true
standby_unless_none words c is without =
    unless _ (ap (λ (conf : Conf). conf.standby) (named _ words c is) ∙ without)
