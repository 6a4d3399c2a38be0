mod Assigned
mod Named
mod Forms
