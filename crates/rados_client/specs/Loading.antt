-- The classes of a cluster that hasn't run, and the reason why a class isn't loaded.
use Rattle.std.specs.Prelude.{◌≡◌, ℕ, suc, List, [], ◌∷◌, ◌++◌, length, ◌==◌, Option, Some, None, Result, Ok, Err, Bool}
use Rattle.std.specs.Prelude.{true, false}
use Rattle.bpf_decode.specs.Class.{ClassMethod, Class}
use Rattle.bpf_decode.specs.ImageReading.{image_of}
use Rattle.bpf_decode.specs.declared.image_error.ImageError.{ImageError}
use Rattle.verifier.specs.Verdict.{class_verdict}
use Rattle.verifier.specs.declared.refusal.Refusal.{Refusal}
use Rattle.interp.specs.declared.limits.TheConstants.{CLASS_LIMIT}
use Rattle.builtin_classes.specs.BuiltIn.{AreLoaded}
use Rattle.builtin_classes.specs.declared.lock.TheConstants.{LOCK}
use Rattle.builtin_classes.specs.declared.obj.TheConstants.{OBJ}
use Rattle.pg_log.specs.Log.{Classes}
use Rattle.osd.specs.declared.config.Config.{Config}
use Rattle.rados_client.specs.declared.load_error.LoadError.{LoadError}
use Rattle.rados_client.specs.declared.load_error.LoadError.TheVariants as load

-- a cluster: the number of its loaded classes; and, if it hasn't run, its configuration and its
-- classes by id
pub record ClusterState : Type 0 where
  pub count : ℕ
  pub config : Option Config
  pub classes : Option Classes

-- the built-in classes: `lock` and `obj`, in this order
abbrev pub IsBuiltIn : Classes → Type 0
IsBuiltIn classes = AreLoaded LOCK.now OBJ.now classes

-- The cluster has this configuration, and these two classes.
pub record HasBuiltIn (config : Config) (s : ClusterState) : Type 0 where
  pub table : Classes
  pub is : s ≡ record { count = 2; config = Some config; classes = Some table }
  pub built_in : IsBuiltIn table

-- The methods are those of the image's class, which is accepted.
pub record IsVerified (image : List ℕ) (class : List ClassMethod) : Type 0 where
  pub written : Class
  pub read : image_of image ≡ Ok written
  pub methods : class ≡ written.methods
  pub accepted : class_verdict written ≡ None

-- The image's class, which is accepted, is added at the end, and its id is that place. The
-- cluster's configuration stays.
pub record IsAdded (image : List ℕ) (old new : ClusterState) (id : ℕ) : Type 0 where
  pub class : List ClassMethod
  pub verified : IsVerified image class
  pub before : Classes
  pub had : old ≡ record { count = id; config = old.config; classes = Some before }
  pub place : id ≡ length before
  pub has : new ≡ record { count = suc id; config = old.config; classes = Some (before ++ class ∷ []) }

-- a method isn't safe
abbrev pub verdict_refusal : Option Refusal → Option LoadError
verdict_refusal None = None
verdict_refusal (Some refusal) = Some (load.Verdict refusal)

-- the same by what reading the image gave
abbrev pub refusal_of_read : Result Class ImageError → Option LoadError
refusal_of_read (Ok class) = verdict_refusal (class_verdict class)
refusal_of_read (Err e) = Some (load.Image e)

-- the reason why an image gives no class, if there is one: it is no image, else a method isn't safe
abbrev pub class_refusal : List ℕ → Option LoadError
class_refusal image = refusal_of_read (image_of image)

-- the cluster has run: it has no list of classes any more
abbrev pub refusal_of_start : Option Classes → Option LoadError
refusal_of_start None = Some load.Started
refusal_of_start (Some classes) = None

-- there is no room for one more class, or else the later reason
abbrev pub refusal_of_room : Bool → Option LoadError → Option LoadError
refusal_of_room true later = Some load.TooMany
refusal_of_room false later = later

-- the first reason, or else the later one
abbrev pub first_of : Option LoadError → Option LoadError → Option LoadError
first_of None later = later
first_of (Some e) later = Some e

-- The reason why a class isn't loaded, except want of memory: its image, else want of room, else
-- that the cluster has run.
abbrev pub load_refusal : List ℕ → ClusterState → Option LoadError
load_refusal image s =
    first_of (class_refusal image) (refusal_of_room (s.count == CLASS_LIMIT) (refusal_of_start s.classes))
