-- The keys are those of the replies once one comes, and once some go.
use Rattle.std.proofs.Common.{◌≡◌, refl, sym, ap, ◌∙◌, subst, ℕ, ◌≤◌, Bool, true, false, ◌&&◌, ◌||◌, List, [], ◌∷◌, ◌++◌, filter, map, arith}
use Rattle.std.proofs.lemmas.Map.Views.{any-filter_same}
use Rattle.std.proofs.lemmas.List.Folds.{list_any-append}
use Rattle.std.specs.Prelude.{IsTrue}
use Rattle.std.specs.List.{list_any}
use Rattle.std.specs.Map.{keys_of}
use Rattle.std.specs.BTreeMap.{is_at}
use Rattle.desk_io.specs.ById.{AreRising}
use Rattle.desk_io.specs.Keys.{is_held}
use Rattle.desk_io.proofs.ByIdLaws.{same, rise}
use Rattle.facts.proofs.KeyOrder.{at_key}
use Rattle.facts.proofs.KeyLaws.{leads}
use Rattle.asks.specs.declared.kept.Floor.{Floor}
use Rattle.asks.specs.declared.kept.KeptReply.{KeptReply}
use Rattle.kept_replies.specs.Requests.{FloorsRise, is_since}
use Rattle.kept_replies.specs.Index.{Key, id_of, key_of, entry_of, key_cmp, has_id, AreKeysOf, AreKeysUnder, leads_to}
use Rattle.kept_replies.specs.ByPerson.{PersonKeys, keys_under}
use Rattle.kept_replies.specs.Replies.{HeldReplies, with_reply, with_swept, AreHeld}
use Rattle.kept_replies.proofs.FoundLaws.{any_mapped}

no_keys : (kept : List KeptReply) (under : ℕ → List Key) → kept ≡ [] → ((m : ℕ) → under m ≡ []) → AreKeysUnder kept under
no_keys kept under none empty = record { each = λ q. ap (list_any (is_at (key_cmp q))) (empty q.0) ∙ sym (ap (list_any (λ k. is_at (key_cmp q) (key_of k))) none) }

no_floors : (floors : List Floor) → floors ≡ [] → FloorsRise floors
no_floors floors none = subst FloorsRise (sym none) tt

pub none_held : (kept : List KeptReply) (a : ℕ) (keys : PersonKeys) (floors : List Floor) → kept ≡ [] → ((m : ℕ) → keys_under keys m ≡ []) → floors ≡ [] → AreHeld kept a keys floors false
none_held kept a keys floors none empty low = record {
  index = no_keys kept (keys_under keys) none empty;
  floors_rise = no_floors floors low;
  has_room = λ e. absurd cc;
}

same_keys_of : (kept fresh : List KeptReply) (under : ℕ → List Key) → fresh ≡ kept → AreKeysUnder kept under → AreKeysUnder fresh under
same_keys_of kept fresh under same is = record { each = λ q. is.each q ∙ sym (ap (list_any (λ k. is_at (key_cmp q) (key_of k))) same) }

-- room for one more reply
pub held_room : (kept fresh : List KeptReply) (a c : ℕ) (keys after : PersonKeys) (floors : List Floor) (room more : Bool) → fresh ≡ kept → ((m : ℕ) → keys_under after m ≡ keys_under keys m)
    → (IsTrue more → (1 ≤ c) × IsTrue after.room) → AreHeld kept a keys floors room → AreHeld fresh c after floors more
held_room kept fresh a c keys after floors room more same under has is = record {
  index = record {
    each = λ q. ap (list_any (is_at (key_cmp q))) (under q.0) ∙ is.index.each q ∙ sym (ap (list_any (λ k. is_at (key_cmp q) (key_of k))) same);
  };
  floors_rise = is.floors_rise;
  has_room = has;
}

-- ---- one more reply

last_first : (a b : Bool) → (a || b) ≡ (b || (a || false))
last_first true true = refl
last_first true false = refl
last_first false true = refl
last_first false false = refl

more_keys : (kept : List KeptReply) (reply : KeptReply) (under after : ℕ → List Key) → AreKeysUnder kept under
    → ((q : Key) → is_held key_cmp q (after q.0) ≡ (is_at (key_cmp q) (key_of reply) || is_held key_cmp q (under q.0))) → AreKeysUnder (kept ++ reply ∷ []) after
more_keys kept reply under after is put = record {
  each = λ q.
      put q ∙ ap (λ b. is_at (key_cmp q) (key_of reply) || b) (is.each q)
      ∙ last_first (is_at (key_cmp q) (key_of reply)) (list_any (λ k. is_at (key_cmp q) (key_of k)) kept)
      ∙ sym (list_any-append (λ k. is_at (key_cmp q) (key_of k)) kept (reply ∷ []));
}

pub held_with : (kept fresh : List KeptReply) (a c : ℕ) (reply : KeptReply) (key : Key) (keys after : PersonKeys) (floors : List Floor) (room : Bool) → key ≡ key_of reply → fresh ≡ kept ++ reply ∷ []
    → ((q : Key) → is_held key_cmp q (keys_under after q.0) ≡ (is_at (key_cmp q) key || is_held key_cmp q (keys_under keys q.0))) → AreHeld kept a keys floors room → AreHeld fresh c after floors false
held_with kept fresh a c reply key keys after floors room of_it pushed put is = record {
  index =
      subst (λ ks. AreKeysUnder ks (keys_under after)) (sym pushed)
      (more_keys kept reply (keys_under keys) (keys_under after) is.index (λ q. put q ∙ ap (λ x. is_at (key_cmp q) x || is_held key_cmp q (keys_under keys q.0)) of_it));
  floors_rise = is.floors_rise;
  has_room = λ e. absurd cc;
}

-- ---- replies that go

pub held_swept : (p : KeptReply → Bool) (kept fresh : List KeptReply) (a c : ℕ) (keys after : PersonKeys) (floors others : List Floor) (room : Bool) → AreRising id_of kept → fresh ≡ filter p kept → a ≤ c
    → ((m : ℕ) → keys_under after m ≡ filter (leads_to fresh) (keys_under keys m)) → after.room ≡ keys.room → FloorsRise others → AreHeld kept a keys floors room → AreHeld fresh c after others room
held_swept p kept fresh a c keys after floors others room rising left more gone same low is = record {
  index = record {
    each = λ q.
        ap (list_any (is_at (key_cmp q))) (gone q.0)
        ∙ any-filter_same (is_at (key_cmp q)) (leads_to fresh) (leads_to fresh q) (λ k at. ap (leads_to fresh) (sym (at_key q k at))) (keys_under keys q.0)
        ∙ ap (λ b. leads_to fresh q && b) (is.index.each q)
        ∙ ap (λ ks. list_any (has_id q.2) ks && list_any (λ k. is_at (key_cmp q) (key_of k)) kept) left
        ∙ leads id_of key_of (λ k. refl) p q kept (rise id_of kept rising)
        ∙ sym (ap (list_any (λ k. is_at (key_cmp q) (key_of k))) left);
  };
  floors_rise = low;
  has_room = λ e. let has = is.has_room e in (omega (arith, has.0), subst IsTrue (sym same) has.1);
}

-- those that a desk is opened with
pub parts_held : (items shown kept : List KeptReply) (a : ℕ) (keys : PersonKeys) (floors : List Floor) → kept ≡ items → shown ≡ items → AreKeysUnder shown (keys_under keys) → FloorsRise floors
    → AreHeld kept a keys floors false
parts_held items shown kept a keys floors held same is low = record {
  index = same_keys_of shown kept (keys_under keys) (held ∙ sym same) is;
  floors_rise = low;
  has_room = λ e. absurd cc;
}

entry_keys : (ks : List KeptReply) → keys_of (map entry_of ks) ≡ map key_of ks
entry_keys [] = refl
entry_keys (k ∷ ks) = ap (λ qs. key_of k ∷ qs) (entry_keys ks)

-- all of their keys
pub keys_listed : (ks : List KeptReply) (entries : List (Key × Unit {0})) (keys : List Key) → entries ≡ map entry_of ks → ((q : Key) → is_held key_cmp q keys ≡ is_held key_cmp q (keys_of entries))
    → AreKeysOf ks keys
keys_listed ks entries keys listed is = record {
  each = λ q. is q ∙ ap (λ es. list_any (is_at (key_cmp q)) (keys_of es)) listed ∙ ap (list_any (is_at (key_cmp q))) (entry_keys ks) ∙ any_mapped (is_at (key_cmp q)) ks;
}

-- the keys of all, by person
pub keys_placed : (ks : List KeptReply) (keys : List Key) (entries : List (Key × Unit {0})) (under : ℕ → List Key) → AreKeysOf ks keys → keys_of entries ≡ keys
    → ((q : Key) → is_held key_cmp q (under q.0) ≡ is_held key_cmp q (keys_of entries)) → AreKeysUnder ks under
keys_placed ks keys entries under is view placed = record { each = λ q. placed q ∙ ap (is_held key_cmp q) view ∙ is.each q }

-- ---- what is seen

abbrev seen_as : List KeptReply → List Floor → Bool → HeldReplies
seen_as kept floors room = record { list = kept; floors = floors; room = room }

pub swept_seen : (before : ℕ) (kept fresh : List KeptReply) (floors others : List Floor) (room : Bool) (seen : HeldReplies) → seen_as kept floors room ≡ seen → fresh ≡ filter (is_since before) kept
    → seen_as fresh others room ≡ with_swept before others seen
swept_seen before kept fresh floors others room seen view left = ap (λ ks. seen_as ks others room) left ∙ ap (with_swept before others) view

pub pushed_seen : (reply : KeptReply) (kept fresh : List KeptReply) (floors : List Floor) (room : Bool) (seen : HeldReplies) → seen_as kept floors room ≡ seen → fresh ≡ kept ++ reply ∷ []
    → seen_as fresh floors false ≡ with_reply reply seen
pushed_seen reply kept fresh floors room seen view pushed = ap (λ ks. seen_as ks floors false) pushed ∙ ap (with_reply reply) view
