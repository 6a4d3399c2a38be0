pub mod Apps
pub mod Taking
