-- The laws of records, of weights, of forms and refusals, of when each number is given, of accepted policies and of what is given of any bytes; and the theorems.
pub mod RecordLaws
pub mod WeightLaws
pub mod FormLaws
pub mod KindLaws
pub mod NumberLaws
pub mod RefusalLaws
pub mod WrittenLaws
pub mod PolicyLaws
pub mod AnswerLaws
pub mod TheoremsProof
