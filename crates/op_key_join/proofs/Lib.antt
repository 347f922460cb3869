mod AdmissionLemmas
mod SingleAdmission
mod PkAdmission
mod JoinAdmission
mod KeptRowLemmas
