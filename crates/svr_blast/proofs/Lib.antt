pub mod FrameLemmas
pub mod QuestionLemmas
