-- What a refusal says, the numbers of the causes of layer job, and a fault as it is told.
use Rattle.std.specs.Prelude.{ℕ, List, ◌++◌, codes, decimal}
use Rattle.refusal.specs.declared.JobCause.{JobCause}
use Rattle.refusal.specs.declared.JobCause.TheVariants.{Choice, NotPinned, MemberCount, NotRising, BansFull, NoSuchBan, ListLength, ListTooShort}
use Rattle.refusal.specs.declared.At.{At}
use Rattle.refusal.specs.declared.Layer.{Layer}
use Rattle.refusal.specs.declared.Layer.TheVariants.{File, Scan, Line, Box, Job, Record}
use Rattle.refusal.specs.declared.Refusal.{Refusal}

abbrev pub layer_name : Layer → List ℕ
layer_name File = codes "file"
layer_name Scan = codes "scan"
layer_name Line = codes "line"
layer_name Box = codes "box"
layer_name Job = codes "job"
layer_name Record = codes "record"

-- a refusal in words: the number of its cause, its place and its layer
abbrev pub telling : Refusal → List ℕ
telling r = codes "refused " ++ (decimal r.number ++ (codes " at " ++ (decimal r.place ++ (codes " layer " ++ layer_name r.layer))))

-- a fault of a layer as it is told, where its causes have these numbers
abbrev pub told : {C : Type 0} → (C → ℕ) → Layer → At C → Refusal
told numbers layer f = record { number = numbers f.cause; place = f.place; layer = layer }

abbrev pub job_number : JobCause → ℕ
job_number Choice = 30
job_number NotPinned = 31
job_number MemberCount = 32
job_number NotRising = 33
job_number BansFull = 34
job_number NoSuchBan = 35
job_number ListLength = 36
job_number ListTooShort = 37

abbrev pub told_job : At JobCause → Refusal
told_job = told job_number Job
