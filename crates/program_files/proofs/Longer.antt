-- The whole file has the class that its beginning has.
use Rattle.std.proofs.Common.{◌≡◌, ◌+◌, ◌<◌, ◌≤◌, ◌⊎◌, inl, inr, refl, ℕ, List, Option, Some, None, take, length, sym, ap, subst, ◌∙◌, arith, length-take, lit≤}
use Rattle.std.specs.Prelude.{◌↔◌, false, IsUtf8, string_bytes}
use Rattle.std.proofs.lemmas.List.{take-take, take_all}
use Rattle.bpf_decode.specs.Class.{Class, IsImage}
use Rattle.bpf_decode.specs.ImageReading.{image_of}
use Rattle.bpf_decode.specs.declared.limits.TheConstants.{IMAGE_LIMIT}
use Rattle.verifier.specs.Verdict.{class_verdict, out_of_memory}
use Rattle.verifier.specs.declared.refusal.Refusal.{Refusal}
use Rattle.program_files.specs.Files.{Disk, Holds, IsBeginning}
use Rattle.program_files.specs.Assembly.{ClassTextFails, IsTooLongIn}
use Rattle.program_files.specs.Image.{IsClassIn, IsImageIn, IsLongText, IsMemory, IsRefusedIn, IsSourceOf, IsText, IsVerdictIn, ReadFails, SayNone, Says, class_of, is_for_image}
use Rattle.program_files.specs.declared.failure.Failure.{Failure}
use Rattle.program_files.specs.declared.failure.Failure.TheVariants as failure
use Rattle.program_files.specs.declared.image.ClassSource.{ClassSource}
use Rattle.program_files.specs.declared.image.ClassSource.TheVariants as sources
use Rattle.program_files.specs.declared.image.TheConstants.{TEXT_LIMIT}

abbrev pub ImageLaw : Type 0
ImageLaw = (bytes : List ℕ) (c : Class) → IsImage (take (IMAGE_LIMIT + 1) bytes) c ↔ IsImage bytes c

abbrev pub ReadLaw : Type 0
ReadLaw = (bytes : List ℕ) → image_of (take (IMAGE_LIMIT + 1) bytes) ≡ image_of bytes

-- a text's limit is above an image's
image_begins : (bytes file : List ℕ) → bytes ≡ take (TEXT_LIMIT + 1) file → take (IMAGE_LIMIT + 1) bytes ≡ take (IMAGE_LIMIT + 1) file
image_begins bytes file is = ap (λ (x : List ℕ). take (IMAGE_LIMIT + 1) x) is ∙ take-take (IMAGE_LIMIT + 1) (TEXT_LIMIT + 1) file (lit≤ tt)

pub image_in : ImageLaw → (disk : Option Disk) (name bytes : List ℕ) (class : Class) → IsBeginning disk name (TEXT_LIMIT + 1) bytes → IsImage bytes class → IsImageIn disk name class
image_in law None name bytes class b i = record { bytes = bytes; held = tt; image = i }
image_in law (Some disk) name bytes class b i =
    record {
      bytes = b.0;
      held = b.1;
      image = (law b.0 class).0 (subst (λ (x : List ℕ). IsImage x class) (image_begins bytes b.0 b.2) ((law bytes class).1 i));
    }

-- a beginning that isn't as long as it might be is the whole
whole : (k : ℕ) (bytes file : List ℕ) → bytes ≡ take (k + 1) file → length bytes ≤ k → bytes ≡ file
whole k bytes file is short =
    is ∙ take_all (k + 1) file (omega (arith, short, ap (λ (x : List ℕ). length x) is, length-take (k + 1) file))

pub held_whole : (disk : Option Disk) (name bytes : List ℕ) → IsBeginning disk name (TEXT_LIMIT + 1) bytes → length bytes ≤ TEXT_LIMIT → Holds disk name bytes
held_whole None name bytes b short = tt
held_whole (Some disk) name bytes b short = b.1 ∙ ap (λ (x : List ℕ). Some x) (sym (whole TEXT_LIMIT bytes b.0 b.2 short))

pub source_in : ImageLaw → (disk : Option Disk) (name bytes : List ℕ) (source : ClassSource) → IsBeginning disk name (TEXT_LIMIT + 1) bytes → Says bytes source → IsSourceOf disk name source
source_in law disk name bytes (sources.Image class) b says = image_in law disk name bytes class b says
source_in law disk name bytes (sources.Text class text) b says =
    let same : bytes ≡ string_bytes text = sym says.0 in
    record {
      held = subst (Holds disk name) same (held_whole disk name bytes b says.1.short);
      is = subst IsText same says.1;
      read = rw says.0 says.2;
    }

-- a whole file that is a text is its beginning
text_begins : (bytes file : List ℕ) → bytes ≡ take (TEXT_LIMIT + 1) file → IsText file → IsText bytes
text_begins bytes file is t = subst IsText (sym (is ∙ take_all (TEXT_LIMIT + 1) file (omega (arith, t.short)))) t

-- the first bytes of a beginning are those of the file
first_begins : (bytes file : List ℕ) → bytes ≡ take (TEXT_LIMIT + 1) file → take (TEXT_LIMIT + 1) bytes ≡ take (TEXT_LIMIT + 1) file
first_begins bytes file is = ap (λ (x : List ℕ). take (TEXT_LIMIT + 1) x) is ∙ take-take (TEXT_LIMIT + 1) (TEXT_LIMIT + 1) file (lit≤ tt)

-- a file is longer than a text may be exactly if the beginning is
longer : (bytes file : List ℕ) → bytes ≡ take (TEXT_LIMIT + 1) file → TEXT_LIMIT < length bytes → TEXT_LIMIT < length file
longer bytes file is long = omega (arith, long, ap (λ (x : List ℕ). length x) is, length-take (TEXT_LIMIT + 1) file)

as_long : (bytes file : List ℕ) → bytes ≡ take (TEXT_LIMIT + 1) file → TEXT_LIMIT < length file → TEXT_LIMIT < length bytes
as_long bytes file is long = omega (arith, long, ap (λ (x : List ℕ). length x) is, length-take (TEXT_LIMIT + 1) file)

long_whole : (bytes file : List ℕ) → bytes ≡ take (TEXT_LIMIT + 1) file → IsLongText bytes → IsLongText file
long_whole bytes file is l =
    record { other = subst (λ (x : List ℕ). is_for_image x ≡ false) (first_begins bytes file is) l.other; long = longer bytes file is l.long }

long_begins : (bytes file : List ℕ) → bytes ≡ take (TEXT_LIMIT + 1) file → IsLongText file → IsLongText bytes
long_begins bytes file is l =
    record { other = subst (λ (x : List ℕ). is_for_image x ≡ false) (sym (first_begins bytes file is)) l.other; long = as_long bytes file is l.long }

-- a file whose beginning is too long is too long
too_long_in : (disk : Option Disk) (name bytes : List ℕ) → IsBeginning disk name (TEXT_LIMIT + 1) bytes → TEXT_LIMIT < length bytes → IsTooLongIn disk name
too_long_in None name bytes b long = record { bytes = bytes; held = tt; long = long }
too_long_in (Some disk) name bytes b long = record { bytes = b.0; held = b.1; long = longer bytes b.0 b.2 long }

pub refused_in : ReadLaw → (disk : Option Disk) (name bytes : List ℕ) (e : Failure) → IsBeginning disk name (TEXT_LIMIT + 1) bytes → SayNone bytes e → IsRefusedIn disk name e
refused_in law None name bytes e b r = record { bytes = bytes; held = tt; refused = r }
refused_in law (Some disk) name bytes failure.TextTooLong b r = record { bytes = b.0; held = b.1; refused = long_whole bytes b.0 b.2 r }
refused_in law (Some disk) name bytes (failure.Text error) b r =
    record { bytes = bytes; held = held_whole (Some disk) name bytes b r.0.short; refused = r }
refused_in law (Some disk) name bytes (failure.Image error) b r =
    record {
      bytes = b.0;
      held = b.1;
      refused = (λ t. r.0 (text_begins bytes b.0 b.2 t), λ l. r.1 (long_begins bytes b.0 b.2 l), sym (law b.0) ∙ (sym (ap image_of (image_begins bytes b.0 b.2)) ∙ (law bytes ∙ r.2)));
    }
refused_in law (Some disk) name bytes failure.CannotRead b r = absurd r
refused_in law (Some disk) name bytes failure.CannotWrite b r = absurd r
refused_in law (Some disk) name bytes failure.NoMemory b r = absurd r
refused_in law (Some disk) name bytes (failure.Verdict refusal) b r = absurd r
refused_in law (Some disk) name bytes failure.InputNotHex b r = absurd r
refused_in law (Some disk) name bytes failure.ObjectNotHex b r = absurd r
refused_in law (Some disk) name bytes (failure.ObjectLine line) b r = absurd r
refused_in law (Some disk) name bytes (failure.Object error) b r = absurd r
refused_in law (Some disk) name bytes (failure.Call error) b r = absurd r
refused_in law (Some disk) name bytes failure.CallFull b r = absurd r

-- the reason why a beginning is of no class is the reason why the file is of none
pub read_fails : ReadLaw → (disk : Option Disk) (name bytes : List ℕ) (e : Failure) → IsBeginning disk name (TEXT_LIMIT + 1) bytes → IsMemory e ⊎ SayNone bytes e → ReadFails disk name e
read_fails law disk name bytes failure.CannotRead b (inl m) = absurd m
read_fails law disk name bytes failure.CannotRead b (inr r) = absurd r
read_fails law disk name bytes failure.CannotWrite b o = elim o [ inl m ↦ inl m | inr r ↦ inr (refused_in law disk name bytes failure.CannotWrite b r) ]
read_fails law disk name bytes failure.NoMemory b o = elim o [ inl m ↦ inl m | inr r ↦ inr (refused_in law disk name bytes failure.NoMemory b r) ]
read_fails law disk name bytes failure.TextTooLong b o = elim o [ inl m ↦ inl m | inr r ↦ inr (refused_in law disk name bytes failure.TextTooLong b r) ]
read_fails law disk name bytes (failure.Text e) b o = elim o [ inl m ↦ inl m | inr r ↦ inr (refused_in law disk name bytes (failure.Text e) b r) ]
read_fails law disk name bytes (failure.Image e) b o = elim o [ inl m ↦ inl m | inr r ↦ inr (refused_in law disk name bytes (failure.Image e) b r) ]
read_fails law disk name bytes (failure.Verdict e) b o = elim o [ inl m ↦ inl m | inr r ↦ inr (refused_in law disk name bytes (failure.Verdict e) b r) ]
read_fails law disk name bytes failure.InputNotHex b o = elim o [ inl m ↦ inl m | inr r ↦ inr (refused_in law disk name bytes failure.InputNotHex b r) ]
read_fails law disk name bytes failure.ObjectNotHex b o = elim o [ inl m ↦ inl m | inr r ↦ inr (refused_in law disk name bytes failure.ObjectNotHex b r) ]
read_fails law disk name bytes (failure.ObjectLine line) b o = elim o [ inl m ↦ inl m | inr r ↦ inr (refused_in law disk name bytes (failure.ObjectLine line) b r) ]
read_fails law disk name bytes (failure.Object e) b o = elim o [ inl m ↦ inl m | inr r ↦ inr (refused_in law disk name bytes (failure.Object e) b r) ]
read_fails law disk name bytes (failure.Call e) b o = elim o [ inl m ↦ inl m | inr r ↦ inr (refused_in law disk name bytes (failure.Call e) b r) ]
read_fails law disk name bytes failure.CallFull b o = elim o [ inl m ↦ inl m | inr r ↦ inr (refused_in law disk name bytes failure.CallFull b r) ]

-- what was read is a class that the file holds
pub is_class : (disk : Option Disk) (name : List ℕ) (source : ClassSource) → IsSourceOf disk name source → IsClassIn disk name (class_of source)
is_class disk name (sources.Image class) read = inl read
is_class disk name (sources.Text class text) read = inr (string_bytes text, read)

pub verdict_in : (disk : Option Disk) (name : List ℕ) (source : ClassSource) (refusal : Refusal) (class : Class) → class ≡ class_of source → IsSourceOf disk name source → (refusal ≡ out_of_memory) ⊎ (class_verdict class ≡ Some refusal) → IsVerdictIn disk name refusal
verdict_in disk name source refusal class same read verdict =
    record {
      class = class_of source;
      image = is_class disk name source read;
      verdict = subst (λ (c : Class). (refusal ≡ out_of_memory) ⊎ (class_verdict c ≡ Some refusal)) same verdict;
    }

-- why a class's text was not read, by what was read of its file
pub too_long : (disk : Option Disk) (name bytes : List ℕ) → IsBeginning disk name (TEXT_LIMIT + 1) bytes → TEXT_LIMIT < length bytes → ClassTextFails disk name failure.TextTooLong
too_long disk name bytes b long = inr (refl, too_long_in disk name bytes b long)

pub no_text : (disk : Option Disk) (name bytes : List ℕ) → IsBeginning disk name (TEXT_LIMIT + 1) bytes → length bytes ≤ TEXT_LIMIT → (IsUtf8 bytes → ⊥) → ClassTextFails disk name failure.CannotRead
no_text disk name bytes b short wrong = inl (inr (record { bytes = bytes; held = held_whole disk name bytes b short; wrong = wrong }))
