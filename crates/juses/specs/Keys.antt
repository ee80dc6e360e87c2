-- The keys of the session's state, and which of them each entry changes.
use Rattle.std.specs.Prelude.{ℕ, List, Bool, true, false, ◌&&◌, ◌||◌, [], ◌∷◌, nat_eq, codes}
use Rattle.std.specs.Cmp.Lexicographic.{pointwise}
use Rattle.juses.specs.declared.uses.Entry.{Entry}
use Rattle.juses.specs.declared.uses.Use.{Use}
use Rattle.juses.specs.declared.uses.Use.TheVariants.{Write, SetPyx, MakePyx, MakeMutex, Lock, Unlock, MakeThread}
use Rattle.juses.specs.declared.uses.Reply.{Reply}
use Rattle.juses.specs.declared.uses.Reply.TheVariants as reply

-- whether two names, or two paths, are the same
abbrev pub same : List ℕ → List ℕ → Bool
same = pointwise nat_eq

-- the first locale, and the one in which each search goes on
abbrev pub base_locale : List ℕ
base_locale = codes "base"

abbrev pub z_locale : List ℕ
z_locale = codes "z"

-- a name in a locale, the names of a locale, and the locales; a pyx that is set by hand and a mutex, by maker and
-- number; and the made threads
pub data Key : Type 0 where
  NameIn : List ℕ → List ℕ → Key
  NamesOf : List ℕ → Key
  Locales : Key
  PyxBy : List ℕ → ℕ → Key
  MutexBy : List ℕ → ℕ → Key
  Threads : Key

abbrev pub same_key : Key → Key → Bool
same_key (NameIn p n) (NameIn q m) = same p q && same n m
same_key (NamesOf p) (NamesOf q) = same p q
same_key Locales Locales = true
same_key (PyxBy p n) (PyxBy q m) = same p q && nat_eq n m
same_key (MutexBy p n) (MutexBy q m) = same p q && nat_eq n m
same_key Threads Threads = true
same_key _ _ = false

-- whether the key is one of these
abbrev pub is_among : List Key → Key → Bool
is_among [] k = false
is_among (j ∷ js) k = same_key j k || is_among js k

-- the pyx, and the mutex, that a reply names
abbrev pub pyx_made : Reply → Key → Bool
pyx_made (reply.Pyx pyx) k = same_key (PyxBy pyx.path pyx.number) k
pyx_made _ k = false

abbrev pub mutex_made : Reply → Key → Bool
mutex_made (reply.Mutex mutex) k = same_key (MutexBy mutex.path mutex.number) k
mutex_made _ k = false

-- a name's value changes that name, its locale's names and the locales
abbrev pub changes_name : List ℕ → List ℕ → Key → Bool
changes_name place name (NameIn p n) = same place p && same name n
changes_name place name (NamesOf p) = same place p
changes_name place name Locales = true
changes_name place name _ = false

abbrev pub changes : Use → Reply → Key → Bool
changes (Write place name value) r k = changes_name place name k
changes MakePyx r k = pyx_made r k
changes (SetPyx pyx outcome) r k = same_key (PyxBy pyx.path pyx.number) k
changes MakeMutex r k = mutex_made r k
changes (Lock mutex) r k = same_key (MutexBy mutex.path mutex.number) k
changes (Unlock mutex) r k = same_key (MutexBy mutex.path mutex.number) k
changes (MakeThread pool) r k = same_key Threads k
changes _ r k = false

-- whether the entry changes what stands at the key
abbrev pub changed_by : Entry → Key → Bool
changed_by e k = changes e.asked e.reply k
