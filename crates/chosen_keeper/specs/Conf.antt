-- What the file `rows.conf` names: a server at which rows are kept.
use Rattle.std.specs.Prelude.{ℕ, Bool, true, false, not, ◌==◌, ◌||◌, ◌+◌, if◌then◌else◌, List, [], ◌∷◌, length, take, drop, Option, None, Some, Result, Ok, Err, codes}
use Rattle.std.specs.List.{list_all, list_any, position_or_len}
use Rattle.std.specs.Str.{bytes_eq}
use Rattle.desk_io.specs.Runs.{runs_between, blanks}
use Rattle.desk_time.specs.Numbers.{number_in}
use Rattle.chosen_keeper.specs.declared.conf.Conf.{Conf}
use Rattle.chosen_keeper.specs.declared.conf.ConfFault.{ConfFault}
use Rattle.chosen_keeper.specs.declared.conf.ConfFault.TheVariants.{NotPostgresql, Unknown, Twice, Missing, BadValue, Remote}
use Rattle.chosen_keeper.specs.declared.conf.Key.{Key}
use Rattle.chosen_keeper.specs.declared.conf.Key.TheVariants.{Host, Port, Dbname, User, Passfile, Standby, Insecure}

-- ---- a word, as host=127.0.0.1

abbrev pub is_equals : ℕ → Bool
is_equals b = b == 61

-- the bytes before the first `=`
abbrev pub front : List ℕ → List ℕ
front word = take (position_or_len is_equals word) word

-- the bytes after it
abbrev pub value : List ℕ → List ℕ
value word = drop (position_or_len is_equals word + 1) word

abbrev pub name_of : Key → List ℕ
name_of Host = codes "host"
name_of Port = codes "port"
name_of Dbname = codes "dbname"
name_of User = codes "user"
name_of Passfile = codes "passfile"
name_of Standby = codes "standby"
name_of Insecure = codes "insecure"

abbrev pub keys : List Key
keys = Host ∷ Port ∷ Dbname ∷ User ∷ Passfile ∷ Standby ∷ Insecure ∷ []

-- the word sets this
abbrev pub sets : Key → List ℕ → Bool
sets key word = bytes_eq (name_of key) (front word)

abbrev pub is_among : List Key → List ℕ → Bool
is_among all word = list_any (λ key. sets key word) all

abbrev pub is_known : List ℕ → Bool
is_known word = is_among keys word

-- one of the words sets what this one sets
abbrev pub is_again : List ℕ → List (List ℕ) → Bool
is_again word others = list_any (λ other. bytes_eq (front other) (front word)) others

-- the first word that is unknown, or sets what a later one sets too, by the number of words after it
abbrev pub word_fault : List (List ℕ) → Option ConfFault
word_fault [] = None
word_fault (word ∷ rest) =
    if not (is_known word) then Some (Unknown (length rest)) else (if is_again word rest then Some (Twice (length rest)) else word_fault rest)

-- ---- the values

abbrev pub is_set : Key → List (List ℕ) → Bool
is_set key words = list_any (sets key) words

-- what the first word that sets this sets it to
abbrev pub set_to : Key → List (List ℕ) → List ℕ
set_to key [] = []
set_to key (word ∷ words) = if sets key word then value word else set_to key words

abbrev pub is_optional : Key → Bool
is_optional Host = false
is_optional Port = false
is_optional Dbname = false
is_optional User = false
is_optional Passfile = true
is_optional Standby = true
is_optional Insecure = true

abbrev pub has_no_zero : List ℕ → Bool
has_no_zero text = list_all (λ b. not (b == 0)) text

-- not empty, without a zero byte
abbrev pub is_text : List ℕ → Bool
is_text [] = false
is_text (b ∷ text) = has_no_zero (b ∷ text)

abbrev pub port_of : List ℕ → Option ℕ
port_of text = number_in 65_535 text

abbrev pub is_some_port : Option ℕ → Bool
is_some_port None = false
is_some_port (Some port) = not (port == 0)

abbrev pub is_port : List ℕ → Bool
is_port text = is_some_port (port_of text)

abbrev pub is_value : Key → List ℕ → Bool
is_value Host text = is_text text
is_value Port text = is_port text
is_value Dbname text = is_text text
is_value User text = is_text text
is_value Passfile text = is_text text
is_value Standby text = bytes_eq text (codes "required") || bytes_eq text (codes "none")
is_value Insecure text = bytes_eq text (codes "yes") || bytes_eq text (codes "no")

abbrev pub absent_fault : Key → Bool → Option ConfFault
absent_fault key true = None
absent_fault key false = Some (Missing key)

abbrev pub value_fault : Key → Bool → Option ConfFault
value_fault key true = None
value_fault key false = Some (BadValue key)

abbrev pub key_fault : List (List ℕ) → Key → Option ConfFault
key_fault words key =
    if not (is_set key words) then absent_fault key (is_optional key) else value_fault key (is_value key (set_to key words))

abbrev pub either_fault : Option ConfFault → Option ConfFault → Option ConfFault
either_fault None other = other
either_fault (Some fault) other = Some fault

-- the first key at fault
abbrev pub keys_fault : List Key → List (List ℕ) → Option ConfFault
keys_fault [] words = None
keys_fault (key ∷ all) words = either_fault (key_fault words key) (keys_fault all words)

-- ---- the host

abbrev pub is_loopback : List ℕ → Bool
is_loopback host = bytes_eq (take 4 host) (codes "127.")

-- `localhost`, or an address that begins with 127
abbrev pub is_local : List ℕ → Bool
is_local host = bytes_eq host (codes "localhost") || is_loopback host

-- the host is this machine, or may be another
abbrev pub may_reach : List (List ℕ) → Bool
may_reach words = is_local (set_to Host words) || bytes_eq (set_to Insecure words) (codes "yes")

abbrev pub reach_fault : Bool → Option ConfFault
reach_fault true = None
reach_fault false = Some Remote

-- ---- the whole

abbrev pub settings_fault : List (List ℕ) → Option ConfFault
settings_fault words = either_fault (word_fault words) (either_fault (keys_fault keys words) (reach_fault (may_reach words)))

abbrev pub port_in : Option ℕ → ℕ
port_in None = 0
port_in (Some port) = port

abbrev pub port_or_none : List ℕ → ℕ
port_or_none text = port_in (port_of text)

-- a standby is required unless a word says `none`
abbrev pub conf_from : List (List ℕ) → Conf
conf_from words = record {
  host = set_to Host words;
  port = port_or_none (set_to Port words);
  database = set_to Dbname words;
  user = set_to User words;
  passfile = set_to Passfile words;
  standby = not (bytes_eq (set_to Standby words) (codes "none"));
}

abbrev pub settled : Option ConfFault → List (List ℕ) → Result Conf ConfFault
settled (Some fault) words = Err fault
settled None words = Ok (conf_from words)

abbrev pub settings : List (List ℕ) → Result Conf ConfFault
settings words = settled (settings_fault words) words

abbrev pub conf_of : List (List ℕ) → Result Conf ConfFault
conf_of [] = Err NotPostgresql
conf_of (first ∷ rest) = if bytes_eq first (codes "postgresql") then settings rest else Err NotPostgresql

-- the server that a text names
abbrev pub read_conf : List ℕ → Result Conf ConfFault
read_conf text = conf_of (runs_between blanks text)

-- ---- the password

abbrev pub is_line_feed : ℕ → Bool
is_line_feed b = b == 10

-- the first line, without its end
abbrev pub read_password : List ℕ → List ℕ
read_password text = take (position_or_len is_line_feed text) text
